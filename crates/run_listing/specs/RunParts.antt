-- The parts of the run program's text, as the code writes them one after the other, and what its simulated exchange
-- says.
use Rattle.std.specs.Prelude.{List, ℕ, Result}
use Rattle.drive_sets.specs.declared.Refusal.{Refusal}
use Rattle.drive_sets.specs.Refusals.{Outcome, outcome_by}
use Rattle.agreement.specs.RoundEndings.{Ending}
use Rattle.text.specs.Text.{joined}
use Rattle.simulation.specs.Simulation.{Simulated}
use Rattle.simulation.specs.Endings.{told_by}
use Rattle.simulation.specs.declared.simulating.Simulated as held
use Rattle.run_listing.specs.RunListing.{drive_line}

-- the lines of some drives
unfoldable pub drive_lines : (ℕ → Ending) → List ℕ → List ℕ
drive_lines ending l = joined (λ d. drive_line d (ending d)) l

-- the result of a call that gives the number of drives and how they end
abbrev pub file_outcome : Result (ℕ × held.Simulated) Refusal → Outcome Simulated
file_outcome r = outcome_by (λ (s : ℕ × held.Simulated). told_by s.0 s.1) r
