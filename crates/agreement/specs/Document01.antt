-- The protocol of document 01, and worlds and runs of its drives. What is proved of it stands in Theorems.
use Rattle.std.specs.Prelude.{Bool, List, ◌↔◌, ℕ, ◌<◌}
use Rattle.drive_sets.specs.Masks.{size}
use Rattle.drive_sets.specs.Refusals.{Outcome}
use Rattle.sync_crash.specs.Rounds.{DecidesIn}
use Rattle.runs.specs.Protocol.{Protocol}
use Rattle.runs.specs.World as worlds
use Rattle.runs.specs.World.{Call, Slot, World}
use Rattle.runs.specs.Scenario.{Scenario, core_of}
use Rattle.runs.specs.Runs as any_runs
use Rattle.runs.specs.Runs.{RoundProgress}
use Rattle.runs.specs.Statement as statements
use Rattle.runs.specs.Statement.{Valid, DecidesAfter}
use Rattle.agreement.specs.Calls.{opening, sending, receiving, closing}
use Rattle.agreement.specs.Sends.{reach}
use Rattle.agreement.specs.Instance.{instance_of}

abbrev pub document01 : Protocol
document01 = record { opening = opening; sending = sending; receiving = receiving; closing = closing; reach = reach }

-- ---- worlds

abbrev pub apply : World → Call → World
apply = worlds.apply document01

abbrev pub apply_all : World → List Call → World
apply_all = worlds.apply_all document01

abbrev pub refused_by : Slot → Call → Bool
refused_by = worlds.refused_by document01

abbrev pub refused_in : World → Call → Bool
refused_in = worlds.refused_in document01

-- ---- runs

abbrev pub opening_part : Scenario → (ℕ → Bool) → World → List Call → Bool
opening_part = any_runs.opening_part document01

abbrev pub sending_of : Slot → ℕ → ℕ → Outcome (List ℕ)
sending_of = any_runs.sending_of document01

abbrev pub undelivered : Scenario → ℕ → World → RoundProgress → ℕ → List ℕ → ℕ → Bool
undelivered = any_runs.undelivered document01

abbrev pub arrived : Scenario → ℕ → World → RoundProgress → ℕ → ℕ → Bool
arrived = any_runs.arrived document01

abbrev pub due : Scenario → ℕ → World → RoundProgress → World → Call → Bool
due = any_runs.due document01

abbrev pub noted : Scenario → ℕ → World → RoundProgress → World → Call → RoundProgress
noted = any_runs.noted document01

abbrev pub round_part : Scenario → ℕ → World → RoundProgress → World → List Call → Bool
round_part = any_runs.round_part document01

abbrev pub round_parts : Scenario → ℕ → World → List (List Call) → Bool
round_parts = any_runs.round_parts document01

abbrev pub Run : Scenario → List Call → Type 0
Run = any_runs.Run document01

abbrev pub leave_undecided : ℕ → World → List Call → Bool
leave_undecided = statements.leave_undecided document01

-- ---- a drive, crashing later or not, decides in a round of a run exactly when the rules of document 01 give it: when
-- the rounds do

unfoldable pub ByRules : Type 0
ByRules = (s : Scenario) → Valid s → (calls : List Call) (run : Run s calls) → (d v k : ℕ)
    → DecidesAfter run d v k ↔ ((k < size (core_of s)) × DecidesIn (instance_of s) d v k)
