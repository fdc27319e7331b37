-- The crashes checked in order: the loop over the drives with a CR, from the lowest, and the checks with what comes
-- next.
use mathlib.Core.Path.{◌≡◌, refl, sym, ap, ◌∙◌}
use mathlib.Core.List.{List, [], ◌∷◌, map}
use Prim.Native.Nat.{ℕ, ◌≤◌}
use native.Mathlib.Omega.{arith}
use Rattle.drive_sets.specs.Bools.Laws.{and_left}
use Rattle.drive_sets.specs.Lists.{range, elem}
use Rattle.drive_sets.specs.Lists.Laws.{elem_head, elem_filter, elem_range}
use Rattle.drive_sets.specs.Refusals.{Outcome, refused, yields, and_then}
use Rattle.drive_sets.specs.Refusals.Laws.{then_same, then_assoc}
use Rattle.drive_sets.specs.Masks.{has, drives}
use Rattle.runs.specs.CrashRecords.{CrashRecord, checked_crash}
use Rattle.drive_crashes.specs.declared.Crashes.{Crashes}
use Rattle.drive_crashes.specs.Crashes.{crash_of_drive, crashes_in}
use Rattle.simulation.specs.Simulation.{checked_crashes}

-- what the checks give of the crashes of some drives, after that of the last
abbrev pub checked_from : ℕ → ℕ → Crashes → ℕ → List ℕ → Outcome (List CrashRecord)
checked_from n core c last ds = checked_crashes n core last (map (crash_of_drive c) ds) (yields (crashes_in c))

-- the crashes of the drives of `rest` are still to be checked
abbrev pub Checking : ℕ → ℕ → Crashes → ℕ → ℕ → Type 0
Checking n core c rest last = checked_from n core c last (drives rest) ≡ checked_crashes n core 0 (crashes_in c) (yields (crashes_in c))

module _ (n core : ℕ) (c : Crashes) (rest last : ℕ) (g : Checking n core c rest last) where
  -- the first drive that is left: its crash is refused, or passes
  module _ (d rest' : ℕ) (e : drives rest ≡ d ∷ drives rest') where
    pub check_refused : (q : ℕ) → refused q ≡ checked_crash n core last (crash_of_drive c d) → refused q ≡ checked_crashes n core 0 (crashes_in c) (yields (crashes_in c))
    unfolding checked_crashes crash_of_drive
    check_refused q h = ap (λ (o : Outcome CrashRecord). and_then o (λ passed. checked_from n core c d (drives rest'))) h ∙ (ap (checked_from n core c last) (sym e) ∙ g)

    pub check_passed : yields (crash_of_drive c d) ≡ checked_crash n core last (crash_of_drive c d) → Checking n core c rest' d
    unfolding checked_crashes crash_of_drive
    check_passed h = ap (λ (o : Outcome CrashRecord). and_then o (λ passed. checked_from n core c d (drives rest'))) h ∙ (ap (checked_from n core c last) (sym e) ∙ g)

  pub check_end : drives rest ≡ [] → yields (crashes_in c) ≡ checked_crashes n core 0 (crashes_in c) (yields (crashes_in c))
  unfolding checked_crashes
  check_end e = ap (checked_from n core c last) (sym e) ∙ g

-- a drive of a set has a place in the arrays
pub first_bounds : (m : ℕ) {d : ℕ} {ds : List ℕ} → drives m ≡ d ∷ ds → (1 ≤ d) × (d ≤ 64)
unfolding drives
first_bounds m {d} {ds} e =
    let b = elem_range d 1 64 (and_left (elem d (range 1 64)) (has d m) (sym (elem_filter (λ x. has x m) d (range 1 64)) ∙ (ap (elem d) e ∙ elem_head d ds))) in
    (b.0, omega (arith, b.1))

-- the checks, then what comes next
module _ {A B : Type 0} where
  pub checked_then : (n core last : ℕ) (crs : List CrashRecord) (a : A) (next : Outcome B)
      → checked_crashes n core last crs next ≡ and_then (checked_crashes n core last crs (yields a)) (λ passed. next)
  unfolding checked_crashes
  checked_then n core last [] a next = refl
  checked_then n core last (c ∷ cs) a next =
      then_same (checked_crash n core last c) (λ x e. checked_then n core c.drive cs a next)
      ∙ sym (then_assoc (checked_crash n core last c) (λ x. checked_crashes n core c.drive cs (yields a)) (λ x. next))
