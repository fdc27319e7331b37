-- The canonical order of the calls of a round is a part of it, given that in the world in which the round begins every
-- sender's call writes a message: each call is due, and in the end the part is complete. What is proved here is about
-- lists and the bookkeeping of a part: no state is looked at.
use mathlib.Core.Path.{◌≡◌, refl, sym, ap, ◌∙◌, fun_ext}
use mathlib.Core.Bool.{Bool, true, false, not, ◌&&◌, ◌||◌, cond, and-false, and-or_distrib_left, or_assoc}
use mathlib.Core.Logic.{⊎_elim}
use mathlib.Core.List.{List, [], ◌∷◌, ◌++◌, map, append_assoc, append-nil}
use Prim.Native.Nat.{ℕ, ◌<◌}
use native.Mathlib.Omega.{arith}
use lib.Dec.{eqb, ltb}
use borrow.Author.Tests.{eqb-true, eqb-false, ne_eqb, ltb-true, not-true}
use Rattle.drive_sets.specs.Bools.Laws.{clash, by_test, false_of, unless, and_intro, and_left, and_right, or_left, or_right, or_neither, or_swap, or_false}
use Rattle.drive_sets.specs.Lists.{filter, all, any, elem, ordered, distinct}
use Rattle.drive_sets.specs.Lists.Laws.{elem_head, elem_tail, elem_cases, elem_filter, elem_none, all_elem, all_intro, any_intro, ordered_filter}
use Rattle.drive_sets.specs.Lists.Takes.{first_kept_least}
use Rattle.drive_sets.specs.Lists.Distinct.{distinct_head, distinct_tail}
use Rattle.drive_sets.specs.Refusals.{yields}
use Rattle.runs.specs.World.{Call, sends, delivers, closes, World}
use Rattle.runs.specs.World as worlds
use Rattle.agreement.specs.Document01.{apply, sending_of, undelivered, arrived, due, noted, round_part}
use Rattle.runs.specs.Scenario.{Scenario, frame, sends_none}
use Rattle.runs.specs.Scenario.Laws.{frame_rising, kept_distinct}
use Rattle.agreement.specs.Sends.{reach}
use Rattle.agreement.proofs.SendLists.{reach_distinct}
use Rattle.runs.specs.Runs.{pending, wrote, RoundProgress, nothing_yet, is_called, wrote_just, settled, sent_by, lacks_room, sender, closer, complete}
use Rattle.runs.specs.Runs as any_runs
use Rattle.runs.specs.Runs.Laws.{same_list_refl}
use Rattle.agreement.specs.Canonical.{room, deliveries, message_calls, round_calls}

kept : (p : ℕ → Bool) (x : ℕ) (l : List ℕ) → elem x (filter p l) ≡ true → (elem x l ≡ true) × (p x ≡ true)
kept p x l h = let t = sym (elem_filter p x l) ∙ h in (and_left (elem x l) _ t, and_right (elem x l) _ t)

module _ (s : Scenario) (r : ℕ) (w₀ : World) where
  -- ---- one call after the other

  -- a due call is noted
  part_due : (b : RoundProgress) (w : World) (c : Call) (cs : List Call) → due s r w₀ b w c ≡ true
      → round_part s r w₀ b w (c ∷ cs) ≡ round_part s r w₀ (noted s r w₀ b w c) (apply w c) cs
  unfolding any_runs.round_part
  part_due b w c cs h = rw h refl

  -- a's call is due where it has not been made, and is noted; `at p` is the progress in which those of p have been made
  record Step (Q : World → Type 0) (call : ℕ → Call) (at : (ℕ → Bool) → RoundProgress) (a : ℕ) : Type 0 where
    is_due_law : (p : ℕ → Bool) (w : World) → p a ≡ false → Q w → due s r w₀ (at p) w (call a) ≡ true
    is_noted : (p : ℕ → Bool) (w : World) → p a ≡ false → Q w → noted s r w₀ (at p) w (call a) ≡ at (λ x. eqb x a || p x)
    keeps : (w : World) → Q w → Q (apply w (call a))

  module _ (Q : World → Type 0) (call : ℕ → Call) (at : (ℕ → Bool) → RoundProgress) where
    one_by_one : (l : List ℕ) (cs : List Call) → distinct l ≡ true → ((a : ℕ) → elem a l ≡ true → Step Q call at a)
        → (p : ℕ → Bool) → ((x : ℕ) → elem x l ≡ true → p x ≡ false)
        → ((q : ℕ → Bool) → ((x : ℕ) → q x ≡ (elem x l || p x)) → (w : World) → Q w → round_part s r w₀ (at q) w cs ≡ true)
        → (w : World) → Q w → round_part s r w₀ (at p) w (map call l ++ cs) ≡ true
    unfolding elem any
    one_by_one [] cs o step p new rest w h = rest p (λ x. refl) w h
    one_by_one (a ∷ l) cs o step p new rest w h =
        let t = step a (elem_head a l) in
        let n = new a (elem_head a l) in
        part_due (at p) w (call a) (map call l ++ cs) (t.is_due_law p w n h)
        ∙ (ap (λ (b : RoundProgress). round_part s r w₀ b (apply w (call a)) (map call l ++ cs)) (t.is_noted p w n h)
        ∙ one_by_one l cs (distinct_tail a l o) (λ x g. step x (elem_tail x a l g)) (λ x. eqb x a || p x)
        (λ x g. or_neither (ne_eqb x a (λ e. clash (rw e at g) (distinct_head a l o))) (new x (elem_tail x a l g)))
        (λ q e. rest q (λ x. e x ∙ (or_swap (elem x l) (eqb x a) (p x) ∙ sym (or_assoc (eqb x a) (elem x l) (p x))))) (apply w (call a)) (t.keeps w h))

  abbrev senders : List ℕ
  senders = filter (sender s r w₀) (frame s)

  abbrev closers : List ℕ
  closers = filter (closer s r w₀) (frame s)

  module _ (written : ℕ → List ℕ) where
    -- the progress in which these senders have been called, these messages delivered (from, to), and these drives have
    -- closed
    abbrev progress : (ℕ → Bool) → (ℕ → ℕ → Bool) → (ℕ → Bool) → RoundProgress
    progress called delivered closed = record { sent = λ x. cond (called x) (wrote (written x)) pending; delivered = delivered; closed = closed }

    -- ---- the sends

    -- each sender's call writes its message
    abbrev Writes : World → Type 0
    Writes w = (d : ℕ) → sender s r w₀ d ≡ true → sending_of (w d) room 0 ≡ yields (written d)

    sent_now : (a : ℕ) (w : World) → sending_of (w a) room 0 ≡ yields (written a) → (p : ℕ → Bool) (x : ℕ)
        → cond (eqb x a) (sent_by (sending_of (w a) room 0)) (cond (p x) (wrote (written x)) pending) ≡ cond (eqb x a || p x) (wrote (written x)) pending
    unfolding sent_by
    sent_now a w q p x = by_test (eqb x a) (λ e. rw (e, eqb-true x a e, q) refl) (λ e. rw e refl)

    send_step : (a : ℕ) → elem a senders ≡ true → Step Writes (λ d. sends d room 0) (λ p. progress p (λ x y. false) (λ x. false)) a
    unfolding any_runs.due any_runs.noted worlds.apply is_called lacks_room
    send_step a i =
        let h = (kept (sender s r w₀) a (frame s) i).1 in
        record {
          is_due_law = λ p w n q. and_intro (and_intro h (rw n refl)) (ap (λ o. not (lacks_room o)) (q a h));
          is_noted = λ p w n q j. record { sent = fun_ext (sent_now a w (q a h) p) j; delivered = λ x y. false; closed = λ x. false };
          keeps = λ w q. q;
        }

    -- ---- the messages, sender by sender

    module _ (called : ℕ → Bool) (is : (x : ℕ) → called x ≡ elem x senders) where
      -- the messages of a, which the senders of l follow; those of the senders before a have been delivered, and of its
      -- own those to q
      module _ (a : ℕ) (l : List ℕ) (here : elem a senders ≡ true) (first : all (ltb a) l ≡ true) (D : ℕ → ℕ → Bool)
          (new : (x y : ℕ) → elem x (a ∷ l) ≡ true → D x y ≡ false)
          (old : (x y : ℕ) → elem x senders ≡ true → elem x (a ∷ l) ≡ false → elem y (reach s r x) ≡ true → D x y ≡ true) where
        abbrev now : (ℕ → Bool) → RoundProgress
        now q = progress called (λ x y. (eqb x a && q y) || D x y) (λ x. false)

        is_undelivered : (q : ℕ → Bool) (e : ℕ) → elem e (reach s r a) ≡ true → q e ≡ false → undelivered s r w₀ (now q) e (written a) a ≡ true
        unfolding any_runs.undelivered wrote_just
        is_undelivered q e to n =
            rw (is a, here, to, n, and-false (eqb a a), new a e (elem_head a l)) (and_intro (and_intro (same_list_refl (written a)) refl) refl)

        -- all messages of a sender before a have been delivered
        earlier_delivered : (q : ℕ → Bool) (e x : ℕ) → x < a → undelivered s r w₀ (now q) e (written a) x ≡ false
        unfolding any_runs.undelivered wrote_just
        earlier_delivered q e x lt =
            by_test (elem x senders)
            (λ i. false_of _ (λ h. clash
            (or_right (eqb x a && q e) (old x e i (false_of (elem x (a ∷ l)) (λ g. ⊎_elim
            (λ c. omega arith) (λ c. omega (arith, ltb-true a x (all_elem (ltb a) l x first c))) (elem_cases x a l g))) (search (and_left, and_right))))
            (search (and_right, not-true))))
            (λ i. rw (is x, i) refl)

        message_step : (e : ℕ) → elem e (reach s r a) ≡ true → Step (λ w. Unit {0}) (λ y. delivers y (written a)) now e
        unfolding any_runs.due any_runs.noted
        message_step e to = record {
          is_due_law = λ q w n h. any_intro (undelivered s r w₀ (now q) e (written a)) (frame s) a (kept (sender s r w₀) a (frame s) here).0 (is_undelivered q e to n);
          is_noted = λ q w n h. rw (first_kept_least (undelivered s r w₀ (now q) e (written a)) (frame s) a (frame_rising s)
              (kept (sender s r w₀) a (frame s) here).0 (is_undelivered q e to n) (λ x i lt. earlier_delivered q e x lt))
              (ap (λ (t : ℕ → ℕ → Bool). progress called t (λ x. false)) (fun_ext (λ x. fun_ext (λ y.
              sym (or_assoc (eqb x a && eqb y e) (eqb x a && q y) (D x y)) ∙ ap (λ (t : Bool). t || D x y) (sym (and-or_distrib_left (eqb x a) (eqb y e) (q y)))))));
          keeps = λ w h. tt;
        }

      messages_part : Writes w₀ → (l : List ℕ) (cs : List Call) → ((x : ℕ) → elem x l ≡ true → elem x senders ≡ true) → ordered ltb l ≡ true → (D : ℕ → ℕ → Bool)
          → ((x y : ℕ) → elem x l ≡ true → D x y ≡ false)
          → ((x y : ℕ) → elem x senders ≡ true → elem x l ≡ false → elem y (reach s r x) ≡ true → D x y ≡ true)
          → ((D' : ℕ → ℕ → Bool) → ((x y : ℕ) → elem x senders ≡ true → elem y (reach s r x) ≡ true → D' x y ≡ true)
          → (w : World) → round_part s r w₀ (progress called D' (λ x. false)) w cs ≡ true)
          → (w : World) → round_part s r w₀ (progress called D (λ x. false)) w (message_calls s r w₀ l ++ cs) ≡ true
      unfolding message_calls ordered deliveries
      messages_part writes [] cs i o D new old rest w = rest D (λ x y g to. old x y g (elem_none x) to) w
      messages_part writes (a ∷ l) cs i o D new old rest w =
          let here = i a (elem_head a l) in
          let first = and_left (all (ltb a) l) _ o in
          let apart : (x : ℕ) → elem x l ≡ true → eqb x a ≡ false = λ x g. ne_eqb x a (λ e. omega (arith, ltb-true a x (all_elem (ltb a) l x first g))) in
          rw (writes a (kept (sender s r w₀) a (frame s) here).1, append_assoc)
          (ap (λ (t : ℕ → ℕ → Bool). round_part s r w₀ (progress called t (λ x. false)) w (map (λ e. delivers e (written a)) (reach s r a) ++ (message_calls s r w₀ l ++ cs)))
          (fun_ext (λ x. fun_ext (λ y. ap (λ (t : Bool). t || D x y) (sym (and-false (eqb x a))))))
          ∙ one_by_one (λ w. Unit {0}) (λ y. delivers y (written a)) (now a l here first D new old) (reach s r a) (message_calls s r w₀ l ++ cs) (reach_distinct s a r)
          (message_step a l here first D new old) (λ x. false) (λ x g. refl)
          (λ q all_q v u. messages_part writes l cs (λ x g. i x (elem_tail x a l g)) (and_right (all (ltb a) l) _ o) (λ x y. (eqb x a && q y) || D x y)
          (λ x y g. rw (apart x g) (new x y (elem_tail x a l g)))
          (λ x y g out to. by_test (eqb x a)
          (λ e. rw e (or_left (D x y) (all_q y ∙ or_left false (rw (eqb-true x a e) at to))))
          (λ e. rw e (old x y g (false_of (elem x (a ∷ l)) (λ c. ⊎_elim (eqb-false x a e) (λ d. clash d out) (elem_cases x a l c))) to)))
          rest v) w tt)

      -- ---- the closes, once all messages have been delivered

      module _ (D : ℕ → ℕ → Bool) (came : (x y : ℕ) → elem x senders ≡ true → elem y (reach s r x) ≡ true → D x y ≡ true) where
        sends_sender : (d : ℕ) → elem d (frame s) ≡ true → sender s r w₀ d ≡ true → elem d senders ≡ true
        sends_sender d i h = elem_filter (sender s r w₀) d (frame s) ∙ and_intro i h

        is_called_law : (closed : ℕ → Bool) (d : ℕ) → elem d (frame s) ≡ true → sender s r w₀ d ≡ true → is_called ((progress called D closed).sent d) ≡ true
        unfolding is_called
        is_called_law closed d i h = rw (is d, sends_sender d i h) refl

        has_arrived : (closed : ℕ → Bool) (e d : ℕ) → elem d (frame s) ≡ true → arrived s r w₀ (progress called D closed) e d ≡ true
        unfolding any_runs.arrived settled
        has_arrived closed e d i =
            unless (sender s r w₀ d && elem e (reach s r d)) (λ h.
            let sent = sends_sender d i (and_left (sender s r w₀ d) _ h) in
            rw (is d, sent) (came d e sent (and_right (sender s r w₀ d) _ h)))

        close_step : (a : ℕ) → elem a closers ≡ true → Step (λ w. Unit {0}) closes (progress called D) a
        unfolding any_runs.due any_runs.noted
        close_step a i =
            let h = kept (closer s r w₀) a (frame s) i in
            record {
              is_due_law = λ p w n q. and_intro (and_intro (and_intro h.1 (ap not n)) (unless (sender s r w₀ a) (is_called_law p a h.0)))
                  (all_intro (arrived s r w₀ (progress called D p) a) (frame s) (has_arrived p a));
              is_noted = λ p w n q. refl;
              keeps = λ w q. tt;
            }

        all_complete : (p : ℕ → Bool) → ((x : ℕ) → p x ≡ (elem x closers || false)) → complete s r w₀ (progress called D p) ≡ true
        unfolding complete
        all_complete p e =
            and_intro
            (all_intro _ (frame s) (λ d i. or_left (sends_none (s.crash d) r) (unless (sender s r w₀ d) (is_called_law p d i))))
            (all_intro _ (frame s) (λ d i. unless (closer s r w₀ d) (λ h. e d ∙ or_left false (elem_filter (closer s r w₀) d (frame s) ∙ and_intro i h))))

        closes_part : (w : World) → round_part s r w₀ (progress called D (λ x. false)) w (map closes closers) ≡ true
        unfolding any_runs.round_part
        closes_part w =
            rw (← append-nil (map closes closers))
            (one_by_one (λ w. Unit {0}) closes (progress called D) closers [] (kept_distinct s (closer s r w₀)) close_step (λ x. false) (λ x g. refl)
            (λ p e v u. all_complete p e) w tt)

    -- ---- the whole round

    pub round_canonical : Writes w₀ → round_part s r w₀ nothing_yet w₀ (round_calls s r w₀) ≡ true
    unfolding round_calls nothing_yet
    round_canonical writes =
        one_by_one Writes (λ d. sends d room 0) (λ p. progress p (λ x y. false) (λ x. false)) senders (message_calls s r w₀ senders ++ map closes closers)
        (kept_distinct s (sender s r w₀)) send_step (λ x. false) (λ x g. refl)
        (λ called e w h. let is : (x : ℕ) → called x ≡ elem x senders = λ x. e x ∙ or_false (elem x senders) in
        messages_part called is writes senders (map closes closers) (λ x g. g) (ordered_filter ltb (sender s r w₀) (frame s) (frame_rising s)) (λ x y. false)
        (λ x y g. refl) (λ x y g out to. absurd (clash g out)) (closes_part called is) w)
        w₀ writes
