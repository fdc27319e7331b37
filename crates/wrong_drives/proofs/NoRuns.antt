-- RunsExist is false of drives that never have room for a send: the sends of round 1 are never made.
use mathlib.Core.Path.{◌≡◌, refl, sym, ap, ◌∙◌, subst}
use mathlib.Core.Bool.{Bool, true, false, not, ◌&&◌, ◌||◌, cond, false≢true, and-false}
use mathlib.Core.List.{List, [], ◌∷◌}
use mathlib.Core.Logic.{⊎_elim}
use Prim.Native.Nat.{ℕ}
use native.Mathlib.Omega.{arith}
use lib.Dec.{eqb}
use lib.ListN.{length}
use borrow.Author.Tests.{eqb-true}
use Rattle.drive_sets.specs.Bools.Laws.{clash, by_test, and_left, and_right, or_cases}
use Rattle.drive_sets.specs.Refusals.Laws.{refused_no_result}
use Rattle.drive_states.specs.declared.Exchange.{Exchange}
use Rattle.agreement.specs.Calls.{initial}
use Rattle.agreement.specs.Calls.Evaluated.{evaluated}
use Rattle.agreement.proofs.CallLaws.{opening_same_table, opened_initial}
use Rattle.runs.specs.World.{Call, opens, sends, delivers, closes, drive_of, Slot, unopened, opened, World, nothing_open, after_call, apply, apply_all, refused_in, active}
use Rattle.runs.specs.World.Laws.{Gives, by_opening, by_message, by_close, put_same, call_keeps}
use Rattle.runs.specs.Scenario.{frame, core_of, gone_before, sends_none}
use Rattle.runs.specs.Runs.{due_opening, opening_part, RoundProgress, nothing_yet, is_called, sending_of, lacks_room, sender, complete, due, noted, round_part, round_parts, Run}
use Rattle.runs.specs.Runs.Laws.{Opens, due_opens}
use Rattle.runs.specs.Statement.{RunsExist}
use Rattle.wrong_drives.specs.Scenarios.{pair}
use Rattle.wrong_drives.proofs.ValidScenarios.{pair_valid, core_two}
use Rattle.wrong_drives.specs.Wrong.{never_room}

abbrev On : Slot → Type 0
On slot = active slot ≡ true

-- ---- an active drive stays active

given_on : {w : World} {d : ℕ} {c : Call} {y : Exchange} → Gives never_room w d c y → On (opened y)
unfolding active initial
given_on (by_opening {n} {sets} {own} {number} q) = ap (λ (z : Exchange). not z.halted) (opened_initial n sets own number q).1
given_on (by_message there q) = absurd (refused_no_result q)
given_on (by_close there q) = absurd (refused_no_result q)

stays_on : (w : World) (c : Call) (d : ℕ) → On (w d) → On (apply never_room w c d)
stays_on w c d h = call_keeps never_room On w c d h (λ y g. given_on g)

-- ---- a due opening makes drive 1 active

due_on : (done : ℕ → Bool) (w : World) (c : Call) → Opens pair done c 1 → On (apply never_room w c 1)
unfolding evaluated apply after_call active
due_on done w c o = rw o.is (ap active (put_same w 1 _) ∙ rw (opening_same_table 2 o.listing pair.sets 1 7 (o.table ∙ sym pair_valid.accepted)) refl)

opening_on_all : (done : ℕ → Bool) (w : World) (cs : List Call) → (done 1 ≡ true → On (w 1)) → opening_part never_room pair done w cs ≡ true
    → On (apply_all never_room w cs 1)
unfolding opening_part apply_all frame evaluated
opening_on_all done w [] h t = h (and_left (done 1) _ t)
opening_on_all done w (c ∷ cs) h t =
    let now = due_opening pair done c || refused_in never_room w c in
    opening_on_all (λ d. (due_opening pair done c && eqb d (drive_of c)) || done d) (apply never_room w c) cs
    (λ u. ⊎_elim
    (λ l. due_on done w c (subst (Opens pair done c) (sym (eqb-true 1 (drive_of c) (and_right (due_opening pair done c) _ l)))
    (due_opens pair done c (and_left (due_opening pair done c) _ l))))
    (λ r. stays_on w c 1 (h r))
    (or_cases (due_opening pair done c && eqb 1 (drive_of c)) (done 1) u))
    (and_right now _ t)

-- ---- and then its send is never made

no_room : (slot : Slot) (room start : ℕ) → lacks_room (sending_of never_room slot room start) ≡ true
unfolding lacks_room sending_of
no_room unopened room start = refl
no_room (opened x) room start = refl

module _ (w₀ : World) (on : On (w₀ 1)) where
  is_sender : sender pair 1 w₀ 1 ≡ true
  unfolding sender evaluated core_of gone_before
  is_sender = rw on refl

  abbrev Uncalled : RoundProgress → Type 0
  Uncalled b = is_called (b.sent 1) ≡ false

  progress_after_law : (b : RoundProgress) (w : World) (c : Call) → Uncalled b → Uncalled (cond (due never_room pair 1 w₀ b w c) (noted never_room pair 1 w₀ b w c) b)
  unfolding due noted
  progress_after_law b w (opens d n sets own number) h = h
  progress_after_law b w (sends d room start) h = rw (no_room (w d) room start, and-false (sender pair 1 w₀ d && not (is_called (b.sent d)))) h
  progress_after_law b w (delivers e bytes) h = by_test (due never_room pair 1 w₀ b w (delivers e bytes)) (λ t. rw t h) (λ t. rw t h)
  progress_after_law b w (closes e) h = by_test (due never_room pair 1 w₀ b w (closes e)) (λ t. rw t h) (λ t. rw t h)

  never_complete : (b : RoundProgress) → Uncalled b → complete pair 1 w₀ b ≡ true → ⊥
  unfolding complete frame evaluated sends_none
  never_complete b h t =
      let f : (not (sender pair 1 w₀ 1) || is_called (b.sent 1) || sends_none (pair.crash 1) 1) ≡ false = rw (is_sender, h) refl in
      clash (and_left (not (sender pair 1 w₀ 1) || is_called (b.sent 1) || sends_none (pair.crash 1) 1) _ (and_left _ _ t)) f

  never_done : (b : RoundProgress) (w : World) (cs : List Call) → Uncalled b → round_part never_room pair 1 w₀ b w cs ≡ true → ⊥
  unfolding round_part
  never_done b w [] h t = never_complete b h t
  never_done b w (c ∷ cs) h t =
      never_done (cond (due never_room pair 1 w₀ b w c) (noted never_room pair 1 w₀ b w c) b) (apply never_room w c) cs (progress_after_law b w c h) (and_right (due never_room pair 1 w₀ b w c || refused_in never_room w c) _ t)

no_rounds : (w₀ : World) → On (w₀ 1) → (ps : List (List Call)) → length ps ≡ 2 → round_parts never_room pair 1 w₀ ps ≡ true → ⊥
unfolding round_parts nothing_yet is_called
no_rounds w₀ on [] l t = absurd (omega (arith, l))
no_rounds w₀ on (p ∷ ps) l t = never_done w₀ on nothing_yet w₀ p refl (and_left (round_part never_room pair 1 w₀ nothing_yet w₀ p) _ t)

pub never_room_no_run : (calls : List Call) → Run never_room pair calls → ⊥
unfolding core_of
never_room_no_run calls run =
    no_rounds (apply_all never_room nothing_open run.first)
    (opening_on_all (λ d. false) nothing_open run.first (λ h. absurd (false≢true h)) run.opens_all)
    run.rounds (run.many ∙ core_two) run.keeps_rounds

pub never_room_rejected : RunsExist never_room → ⊥
unfolding RunsExist
never_room_rejected r = let x = r pair pair_valid in never_room_no_run x.0 x.1
