-- What the arguments of the code say: the scenario that the frame, the core, the pattern numbers and the crashes are
-- of.
use Rattle.std.specs.Prelude.{◌≡◌, true, List, ℕ}
use Rattle.drive_sets.specs.declared.Pattern.{Pattern}
use Rattle.drive_sets.specs.Counts.{is_drive}
use Rattle.drive_states.specs.State.{number_in}
use Rattle.runs.specs.Scenario.{Scenario}
use Rattle.runs.specs.Statement.{Valid}
use Rattle.drive_crashes.specs.declared.Crashes.{Crashes}
use Rattle.simulated_rounds.specs.Rounds.{Says}

-- the frame, the core, the crashes and what the drives propose are those of the scenario, which is valid
pub record Told (n core : ℕ) (numbers : List Pattern) (c : Crashes) (s : Scenario) : Type 0 where
  pub says : Says n core c s
  pub valid : Valid s
  pub proposal_is : (d : ℕ) → is_drive n d ≡ true → s.proposal d ≡ number_in numbers d
