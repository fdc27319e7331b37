-- Closing in a state of a run: a drive that has accepted all that reach it closes the round, its decision and whether
-- it halts are those of the abstract round, and if it goes on, its state is the one in which the next round begins.
use mathlib.Core.Path.{◌≡◌, refl, sym, ap, ap₂, ◌∙◌, fun_ext}
use mathlib.Core.Bool.{Bool, false, not, ◌&&◌, ◌||◌}
use mathlib.Core.Logic.{⊎_elim}
use mathlib.Core.Option.{or_else}
use Prim.Native.Nat.{ℕ, suc, ◌+◌, ◌<◌}
use native.Mathlib.Omega.{arith}
use lib.Dec.{eqb}
use borrow.Author.Tests.{ne_eqb}
use Rattle.drive_sets.specs.Bools.Laws.{by_test, or_neither, or_false, cond_true, cond_false}
use Rattle.drive_sets.specs.Options.{is_some}
use Rattle.drive_sets.specs.Options.Laws.{by_option}
use Rattle.drive_sets.specs.Lists.{range, filter, elem, smallest}
use Rattle.drive_sets.specs.Lists.Smallest.{smallest_same}
use Rattle.drive_sets.specs.Masks.{size, drives}
use Rattle.drive_sets.specs.Masks.Sizes.{elem_drives}
use Rattle.drive_sets.specs.Masks.Tests.{set_of, set_of_lt, set_of_none, insert_set_of, drives_set_of, set_of_some, set_of_equal}
use Rattle.drive_sets.specs.Refusals.{yields}
use Rattle.drive_states.specs.declared.Exchange.{Exchange}
use Rattle.drive_states.specs.declared.Announcement.TheVariants.{Absent}
use Rattle.drive_states.specs.State.{number_of, is_decided}
use Rattle.agreement.specs.Calls as calls
use Rattle.agreement.specs.Calls.{heard_at_close, decision_on, stable_decision, decide, decision_after, next, closing}
use Rattle.agreement.proofs.CallLaws.{decided_on, closing_accepted}
use Rattle.sync_crash.specs.Rounds as rounds
use Rattle.sync_crash.specs.Rounds.{Instance, Lawful, smallest_of, reaches, known, announces, announced, heard, unchanged, stable, if_stable, decides, after, knows, before, decision, halted}
use Rattle.sync_crash.proofs.Rounds.Steps.{Closer, reaches_true, knows_now, before_now, decision_now, halted_now}
use Rattle.sync_crash.proofs.Rounds.HeardSets.{heard_core, before_core}
use Rattle.agreement.proofs.States.{Bounded, InRound, numbers_of, announcement_of, known_from, announced_from, state_of}
use Rattle.agreement.proofs.States.Announcements.{announced_cases, none_announced}
use Rattle.agreement.proofs.States.KnownSets.{known_core, known_none, known_all}
use Rattle.agreement.proofs.States.Rules.{drive_64, core_within, has_core_set, state_in_core, state_number, state_unbroken, state_running}

module _ {S : Instance} (L : Lawful S) (B : Bounded S) {k e : ℕ} (round : k < size (set_of S.core)) (c : Closer S k e) where
  open S use {n, core, proposal}

  -- all that reach e
  abbrev pub reached_by : ℕ → Bool
  reached_by d = reaches S (after S k) k d e

  abbrev x : Exchange
  x = state_of S k e reached_by

  pub closing_round : InRound S k e reached_by
  closing_round = record { in_frame = c.in_frame; round = round; from_core = λ d h. (reaches_true L k d e h).sender.in_core }

  known_now : known_from S k e reached_by ≡ knows S (suc k) e
  known_now = known_all L k e ∙ fun_ext (λ y. sym (knows_now L c y))

  -- ---- heard, and stable

  heard_now : heard_at_close x ≡ set_of (heard S (after S k) k e)
  unfolding heard_at_close state_of heard
  heard_now =
      by_test (core e)
      (λ h. cond_true _ _ (state_in_core L B closing_round ∙ h)
      ∙ ((let b = drive_64 L B e c.in_frame in insert_set_of reached_by e b.0 b.1)
      ∙ ap set_of (fun_ext (λ d. ap (λ (b : Bool). reached_by d || (b && eqb d e)) (sym h)))))
      (λ h. cond_false _ _ (state_in_core L B closing_round ∙ h)
      ∙ ap set_of (fun_ext (λ d. sym (ap (λ (b : Bool). reached_by d || (b && eqb d e)) h ∙ or_false (reached_by d)))))

  stable_now : calls.stable x ≡ stable S (after S k) k e
  unfolding calls.stable stable unchanged state_of
  stable_now =
      ap₂ (λ (a b : ℕ). not (eqb a 0) && eqb b (set_of (before S k e))) heard_now heard_now
      ∙ ap₂ ◌&&◌
      (set_of_some n B.high (heard S (after S k) k e) (core_within L B (heard S (after S k) k e) (heard_core L k e)))
      (set_of_equal n B.high (heard S (after S k) k e) (before S k e)
      (core_within L B (heard S (after S k) k e) (heard_core L k e)) (core_within L B (before S k e) (before_core L k e)))

  -- ---- the decision

  smallest_now : smallest (number_of x) (drives x.known) ≡ smallest_of S (known S (after S k) k e)
  unfolding smallest_of state_of
  smallest_now =
      smallest_same (number_of x) proposal (drives (set_of (known_from S k e reached_by))) (filter (known S (after S k) k e) (range 1 n))
      (λ d. ap (elem d) (drives_set_of n B.high (known_from S k e reached_by) (core_within L B (known_from S k e reached_by) (known_core L k e reached_by))
      ∙ ap (λ p. filter p (range 1 n)) (known_all L k e)))
      (λ d h. state_number L B closing_round d
      (sym (elem_drives d (set_of (known_from S k e reached_by)) (set_of_lt (known_from S k e reached_by)) ∙ has_core_set L B (known_from S k e reached_by) (known_core L k e reached_by) d) ∙ h))

  stable_decision_law : stable_decision x ≡ decision_on (if_stable S (after S k) k e)
  unfolding stable_decision if_stable decision_on
  stable_decision_law = rw stable_now (by_test (stable S (after S k) k e) (λ h. rw h (ap decision_on smallest_now)) (λ h. rw h refl))

  decide_now : decide x (decision_on (decision S k e)) (announcement_of (announced_from S k reached_by) (range 1 n)) ≡ decision_on (decides S (after S k) k e)
  unfolding decide decides or_else decision_on announced announces announced_from
  decide_now =
      by_option (decision S k e)
      (λ o. ⊎_elim (λ a. rw (o, a.0, a.1) stable_decision_law) (λ a. rw (o, a.made, a.first) refl) (announced_cases (announced_from S k reached_by) (range 1 n)))
      (λ v o. rw o refl)

  pub next_decision : (next x).decision ≡ decision_on (decision S (suc k) e)
  unfolding next decision_after state_of
  next_decision = decide_now ∙ ap decision_on (sym (decision_now L c))

  -- ---- who halts

  halted_is : (is_some (decision S k e) || (not (core e) && is_some (decision S (suc k) e))) ≡ halted S (suc k) e
  unfolding rounds.halts
  halted_is = ap (λ z. is_some (decision S k e) || (not (core e) && is_some z)) (decision_now L c) ∙ sym (halted_now L c)

  -- all halt at the close of the round whose number is the core's size
  pub next_halted : (next x).halted ≡ (halted S (suc k) e || eqb (suc k) (size (set_of core)))
  unfolding next calls.halts state_of
  next_halted =
      ap₂ (λ (a b : Bool). (a || b) || eqb (suc k) (size (set_of core)))
      (decided_on (decision S k e))
      (ap₂ (λ (a b : Bool). not a && b) (state_in_core L B closing_round) (ap is_decided next_decision ∙ decided_on (decision S (suc k) e)))
      ∙ ap (λ (b : Bool). b || eqb (suc k) (size (set_of core))) halted_is

  -- ---- the call

  pub closing_state : closing x ≡ yields (next x)
  closing_state = closing_accepted x (state_unbroken L B closing_round) (state_running L B closing_round)

  pub next_state : halted S (suc k) e ≡ false → suc k < size (set_of core) → next x ≡ state_of S (suc k) e (λ d. false)
  unfolding next state_of announced_from
  next_state awake later = λ j. record {
    n = n;
    own = record { 0 = e };
    core = set_of core;
    round = record { 0 = (cond_false (suc k) (suc k + 1) goes_on ∙ one_more) j };
    before = (heard_now ∙ ap set_of (fun_ext (λ d. sym (before_now L c d)))) j;
    heard = sym (set_of_none (λ d. false) (λ d. refl)) j;
    known = ap set_of known_then j;
    start = ap set_of known_now j;
    numbers = ap (numbers_of proposal) known_then j;
    announced = sym none_yet j;
    decision = next_decision j;
    halted = goes_on j;
  }
    where
      goes_on : calls.halts x ≡ false
      goes_on = next_halted ∙ or_neither awake (ne_eqb (suc k) (size (set_of core)) (λ q. omega arith))

      one_more : suc k + 1 ≡ suc (suc k)
      one_more = omega arith

      known_then : known_from S k e reached_by ≡ known_from S (suc k) e (λ d. false)
      known_then = known_now ∙ sym (known_none L (suc k) e)

      none_yet : announcement_of (announced_from S (suc k) (λ d. false)) (range 1 n) ≡ Absent
      none_yet = none_announced (range 1 n)
