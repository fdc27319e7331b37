-- The simulated exchange: how each drive ends by the rounds of SyncCrash, from the scenario alone, with no call. What
-- is to be proved of it, as types: listeners' proposals do not matter, every run gives what the simulated exchange
-- gives, and it gives agreement.
use Rattle.std.specs.Prelude.{◌≡◌, true, List, map, ◌↔◌, ℕ, zero, suc, ◌≤◌}
use Rattle.std.proofs.Math.Option.{Option, none, some}
use Rattle.drive_sets.specs.Masks.{has, size}
use Rattle.survivor_tables.specs.Tables.{Accepted}
use Rattle.sync_crash.specs.Rounds.{Instance, decision}
use Rattle.runs.specs.World.{Call}
use Rattle.runs.specs.Scenario.{Crash, stays, crashes, Scenario, frame, core_of}
use Rattle.agreement.specs.Document01.{Run}
use Rattle.agreement.specs.Instance.{instance_of}
use Rattle.runs.specs.Statement.{Valid, Untouched, Up, Proposed, last_round, Decides, Agreed}

-- a drive decides on a pattern number in a round, or not at all; a drive with a CR counts as stopped, even if it
-- decided before
pub data Ending : Type 0 where
  decides : ℕ → ℕ → Ending  -- the pattern number and the round
  undecided : Ending
  stopped : Ending

-- by what it has decided after round r, or later
unfoldable pub ending_after : Option ℕ → ℕ → Ending → Ending
ending_after none r later = later
ending_after (some v) r later = decides v r

-- the first of the m rounds k + 1, k + 2, .. that leaves drive d decided
unfoldable pub ending_from : Instance → ℕ → ℕ → ℕ → Ending
ending_from S d k zero = undecided
ending_from S d k (suc m) = ending_after (decision S (suc k) d) (suc k) (ending_from S d (suc k) m)

-- the rounds are 1 to the core's size
unfoldable pub ending_of : Scenario → Crash → ℕ → Ending
ending_of s stays d = ending_from (instance_of s) d 0 (size (core_of s))
ending_of s (crashes r m) d = stopped

unfoldable pub endings : Scenario → List Ending
endings s = map (λ d. ending_of s (s.crash d) d) (frame s)

-- ---- it depends on the core drives' proposals only

-- nobody learns what a listener proposes: it may be any number
unfoldable pub ListenersFree : Type 0
ListenersFree = (s : Scenario) → Accepted s.n s.sets → (other : ℕ → ℕ) → ((d : ℕ) → has d (core_of s) ≡ true → s.proposal d ≡ other d)
    → endings s ≡ endings (record { n = s.n; sets = s.sets; proposal = other; crash = s.crash })

-- ---- every run gives it

-- a drive that stays up decides on v in round r of a run exactly if the simulated exchange gives that, whatever the
-- order of the run's calls
unfoldable pub EveryRunGives : Type 0
EveryRunGives = (s : Scenario) → Valid s → (calls : List Call) (run : Run s calls) → (d v r : ℕ) → Up s d
    → (ending_of s (s.crash d) d ≡ decides v r) ↔ Decides run d v r

-- ---- it gives agreement

-- d decides on v in a round up to f + 1
pub record EndsSoon (s : Scenario) (d v : ℕ) : Type 0 where
  pub round : ℕ
  pub up_to : round ≤ last_round s
  pub ends : ending_of s (s.crash d) d ≡ decides v round

-- where some survivor set is untouched, every drive that stays up decides, on the number on which the drives of every
-- run agree
unfoldable pub EndsAsAgreed : Type 0
EndsAsAgreed = (s : Scenario) → Valid s → Untouched s → (calls : List Call) (run : Run s calls) (agreed : Agreed run)
    → (d : ℕ) → Up s d → EndsSoon s d agreed.value

-- so the simulated exchange itself reaches agreement
pub record EndsAgreed (s : Scenario) : Type 0 where
  pub value : ℕ
  pub proposed : Proposed s value
  pub all : (d : ℕ) → Up s d → EndsSoon s d value

unfoldable pub SimulatedAgreement : Type 0
SimulatedAgreement = (s : Scenario) → Valid s → Untouched s → EndsAgreed s
