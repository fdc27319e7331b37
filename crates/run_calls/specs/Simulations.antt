-- The crashes of a scenario that crosses from C.
use Rattle.drive_crashes.specs.declared.Crashes.{Crashes}
use Rattle.run_calls.specs.declared.simulating.Scenario.{Scenario}
pub mod Laws

-- its crashes by drive
abbrev pub crashes_of : Scenario → Crashes
crashes_of s = record { crashed = s.stopped; rounds = s.rounds; sends = s.sends }
