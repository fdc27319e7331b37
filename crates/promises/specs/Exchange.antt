-- What the simulated exchange gives where it is not refused. Document 01: "Unless it refuses, the simulated exchange
-- gives what such a run gives, whatever the order of its messages", and demand 3 of its result: all drives that stay up
-- decide on one number, proposed by a core drive, by the close of round f + 1.
use Rattle.std.specs.Prelude.{◌≡◌, true, List, ◌↔◌, ℕ, ◌-◌, ◌≤◌, ◌<◌, length, get_or}
use Rattle.drive_sets.specs.Counts.{is_drive}
use Rattle.drive_sets.specs.Limits.{pattern_limit}
use Rattle.drive_sets.specs.Refusals.{yields}
use Rattle.runs.specs.World.{Call}
use Rattle.runs.specs.Scenario.{Scenario, core_of, has_crash}
use Rattle.runs.specs.CrashRecords.{CrashRecord, scenario}
use Rattle.runs.specs.Statement.{Up, Proposed, core_crashes, last_round, Decides}
use Rattle.agreement.specs.Document01.{Run}
use Rattle.agreement.specs.RoundEndings.{Ending, decides, undecided, stopped}
use Rattle.simulation.specs.Simulation.{Simulated, simulated}

-- how drive d ends: the endings stand in the order of the drives, drive 1's first
abbrev pub ending_in : List Ending → ℕ → Ending
ending_in endings d = get_or endings (d - 1) undecided

-- the ending is a decision on v, in a round from 1 up to the last
pub record DecidesBy (last v : ℕ) (e : Ending) : Type 0 where
  pub round : ℕ
  pub from : 1 ≤ round
  pub up_to : round ≤ last
  pub is : e ≡ decides v round

pub record ExchangeGives (s : Scenario) (r : Simulated) : Type 0 where
  -- the core, and f, the number of core drives with a CR
  pub core : r.core ≡ core_of s
  pub stops : r.stops ≡ core_crashes s
  -- an ending for each drive of the frame
  pub many : length r.endings ≡ s.n
  -- a drive with a CR is stopped
  pub with_crash : (d : ℕ) → is_drive s.n d ≡ true → has_crash (s.crash d) ≡ true → ending_in r.endings d ≡ stopped
  -- a drive that stays up decides on v in round q exactly if it does so in a run, in every run; and there is a run
  pub every_run : (calls : List Call) (run : Run s calls) (d v q : ℕ) → Up s d → (ending_in r.endings d ≡ decides v q) ↔ Decides run d v q
  pub some_run : (calls : List Call) × Run s calls
  -- there is one number, proposed by a core drive, on which each drive that stays up decides, in a round up to f + 1
  pub value : ℕ
  pub proposed : Proposed s value
  pub agreed : (d : ℕ) → Up s d → DecidesBy (last_round s) value (ending_in r.endings d)

-- of every simulated exchange that the call gives, of pattern numbers
unfoldable pub ExchangeOfCall : Type 0
ExchangeOfCall = (n : ℕ) (sets numbers : List ℕ) (crs : List CrashRecord) (r : Simulated) → simulated n sets numbers crs ≡ yields r
    → ((d : ℕ) → is_drive n d ≡ true → get_or numbers (d - 1) 0 < pattern_limit) → ExchangeGives (scenario n sets numbers crs) r
