-- The lines of the drives, and the text of a simulated exchange, from what the code has of it.
use mathlib.Core.Path.{◌≡◌, refl, sym, ap, ◌∙◌}
use mathlib.Core.List.{List, map, ◌++◌}
use Prim.Native.Nat.{ℕ, zero, suc, ◌+◌, ◌<◌}
use native.Mathlib.Omega.{arith}
use lib.ListN.{get_or}
use Rattle.drive_sets.specs.Lists.{range}
use Rattle.drive_sets.specs.Refusals.{yields}
use Rattle.simulated_decisions.specs.Endings.{ending_by, ending_for, ending_at, found_of}
use Rattle.simulation.specs.Endings.{endings_in, told_by}
use Rattle.agreement.specs.RoundEndings.{Ending}
use Rattle.text.specs.Text.{joined}
use Rattle.run_listing.specs.RunListing.{drive_line, ending_lines, core_line, run_text}
use Rattle.run_listing.specs.RunParts.{drive_lines}
use Rattle.simulation.specs.declared.simulating.Simulated.{Simulated}

-- the lines of the drives are those of the list of endings
pub drives_endings : (ending : ℕ → Ending) (d k : ℕ) → drive_lines ending (range d k) ≡ ending_lines d (map ending (range d k))
unfolding drive_lines joined ending_lines range
drives_endings ending d zero = refl
drives_endings ending d (suc k) = ap (λ (r : List ℕ). drive_line d (ending d) ++ r) (drives_endings ending (suc d) k)

-- the drive at a place of the drives from d on
pub drive_at_law : (d k i : ℕ) → i < k → i + d ≡ get_or (range d k) i 0
unfolding range
drive_at_law d zero i h = absurd (omega arith)
drive_at_law d (suc k) zero h = omega arith
drive_at_law d (suc k) (suc i) h = let on = drive_at_law (suc d) k i (omega arith) in let same : suc i + d ≡ i + suc d = omega arith in same ∙ on

-- the text of a simulated exchange
pub simulated_text : (n : ℕ) (s : Simulated) → run_text (yields (told_by n s)) ≡ drive_lines (ending_at s.crashed s.found) (range 1 n) ++ core_line s.core s.stops
unfolding told_by endings_in ending_at ending_for found_of ending_by
simulated_text n s = ap (λ (l : List ℕ). l ++ core_line s.core s.stops) (sym (drives_endings (ending_at s.crashed s.found) 1 n))
