-- The calls of a round in the canonical order are those that the code makes: its list of a sender, its senders and its
-- closers are the scenario's.
use mathlib.Core.Path.{◌≡◌, refl, ap, ap₂, ◌∙◌}
use mathlib.Core.Bool.{Bool, true, not, ◌&&◌}
use mathlib.Core.List.{List, [], ◌∷◌, ◌++◌, map}
use Prim.Native.Nat.{ℕ, ◌^◌, ◌≤◌, ◌<◌}
use Rattle.drive_sets.specs.Bools.Laws.{by_test}
use Rattle.drive_sets.specs.Lists.{range, filter, elem}
use Rattle.drive_sets.specs.Lists.Laws.{elem_head, elem_tail, filter_same}
use Rattle.drive_sets.specs.Masks.{has}
use Rattle.drive_states.specs.declared.Exchange.{Exchange}
use Rattle.drive_sets.specs.Counts.{is_drive}
use Rattle.drive_sets.specs.Counts.Laws.{is_drive_range}
use Rattle.agreement.specs.Calls.{sending}
use Rattle.runs.specs.World.{Call, sends, closes, Slot, opened, World, active}
use Rattle.agreement.specs.Document01.{document01, apply_all, sending_of}
use Rattle.runs.specs.World as worlds
use Rattle.runs.specs.World.Laws.{apply_all_append}
use Rattle.runs.specs.Scenario.{Crash, Scenario, frame, gone_before, gone_by}
use Rattle.agreement.proofs.SendLists.{receivers_masks}
use Rattle.agreement.specs.Sends.{receivers, list_of, cut, reach}
use Rattle.runs.specs.Runs.{sender, closer, joined}
use Rattle.runs.specs.Runs as any_runs
use Rattle.agreement.specs.Canonical.{room, deliveries, message_calls, round_calls}
use Rattle.drive_crashes.specs.declared.Crashes.{Crashes}
use Rattle.simulated_sends.specs.States.{state_at, world_of, list_for}
use Rattle.simulated_rounds.specs.Rounds.{crash_at, closers, sends_now, messages_by, messages_of, Says}
use Rattle.simulated_sends.proofs.Worlds.{world_at}

-- a send changes no state
sends_nothing : (w : World) (ds : List ℕ) → apply_all w (map (λ d. sends d room 0) ds) ≡ w
unfolding worlds.apply_all worlds.apply
sends_nothing w [] = refl
sends_nothing w (d ∷ ds) = sends_nothing w ds

module _ (n core : ℕ) (c : Crashes) (s : Scenario) (few : n ≤ 64) (within : core < 2 ^ n) (g : Says n core c s) where
  -- ---- the list of a sender

  list_for_law : (d : ℕ) → is_drive n d ≡ true → list_of s d ≡ list_for n core d
  unfolding list_of list_for frame
  list_for_law d h =
      ap₂ (λ (k m : ℕ). receivers (range 1 m) k d) g.core_is g.frame_is ∙ receivers_masks n core d few within h

  module _ (states : List Exchange) (r : ℕ) where
    abbrev world : World
    world = world_of n states

    same_active : (d : ℕ) → is_drive n d ≡ true → active (world d) ≡ active (opened (state_at states d))
    same_active d h = ap active (world_at n states d h)

    -- ---- the senders and their messages

    same_sender : (d : ℕ) → is_drive n d ≡ true → sender s r world d ≡ sends_now core states c r d
    unfolding sender sends_now
    same_sender d h =
        ap (λ (k : ℕ). has d k && active (world d) && not (gone_before (s.crash d) r)) g.core_is
        ∙ ap₂ (λ (a : Bool) (q : Crash). has d core && a && not (gone_before q r)) (same_active d h) (g.crash_is d)

    same_messages : (d : ℕ) → is_drive n d ≡ true
        → deliveries (sending_of (world d) room 0) (reach s r d) ≡ deliveries (sending (state_at states d) room 0) (cut (crash_at c d) r (list_for n core d))
    unfolding reach any_runs.sending_of
    same_messages d h =
        ap₂ deliveries (ap (λ (slot : Slot). sending_of slot room 0) (world_at n states d h))
        (ap₂ (λ (q : Crash) (l : List ℕ). cut q r l) (g.crash_is d) (list_for_law d h))

    messages_of_law : (ds : List ℕ) → ((d : ℕ) → elem d ds ≡ true → is_drive n d ≡ true)
        → message_calls s r world (filter (sender s r world) ds) ≡ joined (map (messages_by n core states c r) ds)
    unfolding message_calls joined filter messages_by
    messages_of_law [] h = refl
    messages_of_law (d ∷ ds) h =
        let in_frame = h d (elem_head d ds) in
        let rest = messages_of_law ds (λ e i. h e (elem_tail e d ds i)) in
        by_test (sends_now core states c r d)
        (λ t. rw (same_sender d in_frame, t, same_messages d in_frame) (ap (λ (l : List Call). deliveries (sending (state_at states d) room 0) (cut (crash_at c d) r (list_for n core d)) ++ l) rest))
        (λ t. rw (same_sender d in_frame, t) rest)

    -- ---- the closers

    same_closers : filter (closer s r world) (frame s) ≡ closers n states c r
    unfolding closers closer frame
    same_closers =
        ap (λ (m : ℕ). filter (closer s r world) (range 1 m)) g.frame_is
        ∙ filter_same (closer s r world) (λ d. active (opened (state_at states d)) && not (gone_by (crash_at c d) r)) (range 1 n)
        (λ d i. let in_frame = is_drive_range n d ∙ i in
        ap (λ (m : ℕ). is_drive m d && active (world d) && not (gone_by (s.crash d) r)) g.frame_is
        ∙ (ap (λ (b : Bool). b && active (world d) && not (gone_by (s.crash d) r)) in_frame
        ∙ ap₂ (λ (a : Bool) (q : Crash). a && not (gone_by q r)) (same_active d in_frame) (g.crash_is d)))

    -- ---- the round

    pub round_made : apply_all world (round_calls s r world) ≡ apply_all (apply_all world (messages_of n core states c r)) (map closes (closers n states c r))
    unfolding round_calls messages_of frame
    round_made =
        let told = message_calls s r world (filter (sender s r world) (range 1 s.n)) in
        let closed = map closes (filter (closer s r world) (frame s)) in
        apply_all_append document01 world (map (λ d. sends d room 0) (filter (sender s r world) (range 1 s.n))) (told ++ closed)
        ∙ (ap (λ (w : World). apply_all w (told ++ closed)) (sends_nothing world (filter (sender s r world) (range 1 s.n)))
        ∙ (apply_all_append document01 world told closed
        ∙ ap₂ (λ (a : List Call) (l : List ℕ). apply_all (apply_all world a) (map closes l))
        (ap (λ (m : ℕ). message_calls s r world (filter (sender s r world) (range 1 m))) g.frame_is ∙ messages_of_law (range 1 n) (λ d i. is_drive_range n d ∙ i))
        same_closers))
