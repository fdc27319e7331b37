-- A scenario: a frame, what its drives propose, and which of them crash.
use Rattle.std.specs.Prelude.{Bool, true, false, ◌&&◌, List, ℕ, eqb, leb, ltb}
use Rattle.drive_sets.specs.Lists.{range}
use Rattle.survivor_tables.specs.Order.{normal}
use Rattle.survivor_tables.specs.Tables.{chosen}
pub mod Laws

-- CR, a crash failure: the drive acts normally before that round, makes that many sends of that round's list and is
-- gone before the round closes. A function of the drive, so there is at most one CR to a drive.
pub data Crash : Type 0 where
  stays : Crash
  crashes : ℕ → ℕ → Crash  -- the round and the sends

pub record Scenario : Type 0 where
  pub n : ℕ
  pub sets : List ℕ
  pub proposal : ℕ → ℕ
  pub crash : ℕ → Crash

-- the drives of the frame, rising
unfoldable pub frame : Scenario → List ℕ
frame s = range 1 s.n

-- the chosen core of the table
unfoldable pub core_of : Scenario → ℕ
core_of s = chosen (normal s.sets)

-- a CR for an earlier round
unfoldable pub gone_before : Crash → ℕ → Bool
gone_before stays r = false
gone_before (crashes q sends) r = ltb q r

-- a CR for this round or an earlier one
unfoldable pub gone_by : Crash → ℕ → Bool
gone_by stays r = false
gone_by (crashes q sends) r = leb q r

-- a CR for this round with no sends
unfoldable pub sends_none : Crash → ℕ → Bool
sends_none stays r = false
sends_none (crashes q sends) r = eqb q r && eqb sends 0

unfoldable pub has_crash : Crash → Bool
has_crash stays = false
has_crash (crashes q sends) = true
