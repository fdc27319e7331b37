-- What the call's result says: how the drives end, the core and f, or a refusal.
use Rattle.std.specs.Prelude.{cond, List, map, ℕ, Result}
use Rattle.drive_sets.specs.declared.Refusal.{Refusal}
use Rattle.drive_sets.specs.Lists.{range}
use Rattle.drive_sets.specs.Masks.{has}
use Rattle.drive_sets.specs.Refusals.{Outcome, outcome_by}
use Rattle.agreement.specs.RoundEndings.{Ending, stopped}
use Rattle.simulated_decisions.specs.Endings.{found_of}
use Rattle.simulation.specs.declared.simulating.Simulated as answers
use Rattle.simulation.specs.Simulation.{Simulated}

-- how the drives 1 to n end: a drive with a CR is stopped, even if it decided before
unfoldable pub endings_in : ℕ → answers.Simulated → List Ending
endings_in n r = map (λ d. cond (has d r.crashed) stopped (found_of r.found d)) (range 1 n)

unfoldable pub told_by : ℕ → answers.Simulated → Simulated
told_by n r = record { endings = endings_in n r; core = r.core; stops = r.stops }

unfoldable pub simulated_outcome : ℕ → Result answers.Simulated Refusal → Outcome Simulated
simulated_outcome n r = outcome_by (told_by n) r
