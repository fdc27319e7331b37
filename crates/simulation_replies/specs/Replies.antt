-- The reply of the simulated exchange as a struct of numbers, from what the simulated exchange gives: the values of a
-- result with refusal 0, and beside a refusal zeros.
use Rattle.std.specs.Prelude.{List, map, ◌++◌, length, drop, replicate}
use Rattle.drive_sets.specs.Limits.{max_drives}
use Rattle.drive_sets.specs.Refusals.{Outcome, refused, yields}
use Rattle.drive_states.specs.State.{pattern}
use Rattle.agreement.specs.RoundEndings.{Ending, decides, undecided, stopped}
use Rattle.simulation.specs.Simulation.{Simulated}
use Rattle.simulation_replies.specs.declared.DriveEnding.{DriveEnding}
use Rattle.simulation_replies.specs.declared.SimulationReply.{SimulationReply}
pub mod Laws

-- ---- how a drive ends

abbrev pub no_ending : DriveEnding
no_ending = record { number = pattern 0; round = record { 0 = 0 }; stopped = 0 }

abbrev pub drive_ending : Ending → DriveEnding
drive_ending (decides v r) = record { number = pattern v; round = record { 0 = r }; stopped = 0 }
drive_ending undecided = no_ending
drive_ending stopped = record { number = pattern 0; round = record { 0 = 0 }; stopped = 1 }

-- ---- how all of them do

-- in the first of 64 places, with zeros behind them
unfoldable pub in_drives : List Ending → List DriveEnding
in_drives l = map drive_ending l ++ drop (length (map drive_ending l)) (replicate max_drives no_ending)

abbrev pub simulation_reply : Outcome Simulated → SimulationReply
simulation_reply (refused r) = record { drives = replicate max_drives no_ending; core = 0; stops = 0; refusal = r }
simulation_reply (yields s) = record { drives = in_drives s.endings; core = s.core; stops = s.stops; refusal = 0 }
