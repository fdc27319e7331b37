-- The rules of 28 as a record of facts, and that a state which keeps them is not refused.
use Rattle.std.specs.Prelude.{◌≡◌, true, false, not, ◌≤◌}
use Rattle.std.proofs.Common.{ap}
use Rattle.drive_sets.specs.Bools.Laws.{by_test, and_intro, and_fails_left, and_fails_right, or_neither}
use Rattle.drive_sets.specs.Masks.{has, subset, size}
use Rattle.survivor_tables.specs.Tables.{is_frame, is_set}
use Rattle.drive_states.specs.declared.Exchange.{Exchange}
use Rattle.drive_sets.specs.Counts.{is_drive}
use Rattle.drive_sets.specs.Counts.Laws.{is_round_law}
use Rattle.drive_states.specs.State.{in_core, broken}

-- a state that keeps the rules of 28
pub record Sound (x : Exchange) : Type 0 where
  pub frame : is_frame x.n ≡ true
  pub core : is_set x.n x.core ≡ true
  pub own_known : in_core x ≡ true → has x.own.0 x.known ≡ true
  pub own_start : in_core x ≡ true → has x.own.0 x.start ≡ true
  pub drive : is_drive x.n x.own.0 ≡ true
  pub from_one : 1 ≤ x.round.0
  pub to_size : x.round.0 ≤ size x.core
  pub before_core : subset x.before x.core ≡ true
  pub heard_core : subset x.heard x.core ≡ true
  pub known_core : subset x.known x.core ≡ true
  pub start_core : subset x.start x.core ≡ true

pub sound_unbroken : (x : Exchange) → Sound x → broken x ≡ false
unfolding broken
sound_unbroken x s =
    or_neither (or_neither (or_neither (or_neither (or_neither (ap not s.frame) (ap not s.core))
    (by_test (in_core x)
    (λ h. and_fails_right (in_core x) (ap not (and_intro (s.own_known h) (s.own_start h))))
    (λ h. and_fails_left _ h)))
    (ap not s.drive))
    (ap not (is_round_law x.core x.round.0 s.from_one s.to_size)))
    (ap not (and_intro (and_intro (and_intro s.before_core s.heard_core) s.known_core) s.start_core))
