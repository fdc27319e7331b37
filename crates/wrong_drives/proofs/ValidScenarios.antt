-- The scenarios are valid, and drive 1 is an untouched survivor set in each.
use mathlib.Core.Path.{◌≡◌, refl, sym, ◌∙◌}
use mathlib.Core.Bool.{true, false≢true}
use mathlib.Core.List.{[], ◌∷◌}
use Prim.Native.Nat.{ℕ, zero, suc, ◌-◌, ◌≤◌, ◌<◌}
use native.Mathlib.Omega.{arith}
use Rattle.drive_sets.specs.Lists.{elem}
use Rattle.drive_sets.specs.Masks.{has, size}
use Rattle.drive_sets.specs.Refusals.{yields}
use Rattle.survivor_tables.specs.Order.{normal}
use Rattle.survivor_tables.specs.Tables.{chosen, normal_table}
use Rattle.drive_sets.specs.Counts.{is_drive}
use Rattle.drive_sets.specs.Limits.{pattern_limit}
use Rattle.agreement.specs.Calls.Evaluated.{evaluated}
use Rattle.runs.specs.Scenario.{stays, crashes, Scenario, core_of}
use Rattle.runs.specs.Scenario.Laws.{stays_crashes}
use Rattle.runs.specs.Statement.{Passes, Valid, Untouched, Up}
use Rattle.wrong_drives.specs.Scenarios.{proposals, two_sets, pair, second_gone, half_gone, listened}

proposals_fit : (d : ℕ) → proposals d < pattern_limit
proposals_fit zero = omega arith
proposals_fit (suc zero) = omega arith
proposals_fit (suc (suc d)) = omega arith

-- ---- nobody crashes

pub pair_valid : Valid pair
unfolding evaluated
pair_valid = record { accepted = refl; patterns = λ d h. proposals_fit d; passes = λ d r m e. absurd (stays_crashes e) }

pub pair_untouched : Untouched pair
unfolding evaluated elem
pair_untouched = record { set = 1; listed = refl; stay = λ d h. refl }

pub pair_up : (d : ℕ) → is_drive 2 d ≡ true → Up pair d
pair_up d h = record { in_frame = h; stay = refl }

-- ---- drive 2 is gone in round 1

pub core_two : size (chosen (normal (1 ∷ 2 ∷ []))) ≡ 2
unfolding evaluated
core_two = refl

second_in_core : has 2 (chosen (normal (1 ∷ 2 ∷ []))) ≡ true
unfolding evaluated
second_in_core = refl

first_stays : (sends d : ℕ) → has d 1 ≡ true → second_gone sends d ≡ stays
unfolding evaluated
first_stays sends zero h = refl
first_stays sends (suc zero) h = refl
first_stays sends (suc (suc zero)) h = absurd (false≢true h)
first_stays sends (suc (suc (suc d))) h = refl

module _ (n sends : ℕ) (accepted : normal_table n (1 ∷ 2 ∷ []) ≡ yields (normal (1 ∷ 2 ∷ []))) (drive : is_drive n 2 ≡ true) (few : sends ≤ n - 1) where
  abbrev gone : Scenario
  gone = two_sets n (second_gone sends)

  second_passes : (round m : ℕ) → crashes 1 sends ≡ crashes round m → Passes gone 2 round m
  unfolding core_of
  second_passes round m e =
      let r : 1 ≡ round = cc in
      let k : sends ≡ m = cc in
      record {
        in_frame = drive;
        from = omega (arith, r);
        up_to = omega (arith, r, core_two);
        of_core = λ h. omega (arith, k, few);
        of_listener = λ h. absurd (false≢true (sym h ∙ second_in_core));
      }

  gone_passes : (d round m : ℕ) → second_gone sends d ≡ crashes round m → Passes gone d round m
  gone_passes zero round m e = absurd (stays_crashes e)
  gone_passes (suc zero) round m e = absurd (stays_crashes e)
  gone_passes (suc (suc zero)) round m e = second_passes round m e
  gone_passes (suc (suc (suc d))) round m e = absurd (stays_crashes e)

  gone_valid : Valid gone
  gone_valid = record { accepted = accepted; patterns = λ d h. proposals_fit d; passes = gone_passes }

  gone_untouched : Untouched gone
  unfolding elem evaluated
  gone_untouched = record { set = 1; listed = refl; stay = first_stays sends }

pub half_gone_valid : Valid half_gone
unfolding evaluated
half_gone_valid = gone_valid 2 0 refl refl (omega arith)

pub half_gone_untouched : Untouched half_gone
unfolding evaluated
half_gone_untouched = gone_untouched 2 0 refl refl (omega arith)

pub listened_valid : Valid listened
unfolding evaluated
listened_valid = gone_valid 3 1 refl refl (omega arith)

pub listened_untouched : Untouched listened
unfolding evaluated
listened_untouched = gone_untouched 3 1 refl refl (omega arith)
