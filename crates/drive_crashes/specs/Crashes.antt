-- Crashes by drive, as the CR records that they stand for.
use Rattle.std.specs.Prelude.{List, map, ℕ, ◌-◌, get_or, set, replicate}
use Rattle.drive_sets.specs.declared.Drive.{Drive}
use Rattle.drive_sets.specs.declared.Round.{Round}
use Rattle.drive_sets.specs.Masks.{single, union, drives}
use Rattle.runs.specs.CrashRecords.{CrashRecord}
use Rattle.drive_crashes.specs.declared.Crashes.{Crashes}
pub mod Laws

-- a CR by its fields
unfoldable pub crash_record : Drive → Round → ℕ → CrashRecord
crash_record drive round sends = record { drive = drive.0; round = round.0; sends = sends }

-- a round for the places that an array does not have
abbrev pub no_round : Round
no_round = record { 0 = 0 }

-- the round at the place of a drive
abbrev pub round_at : List Round → ℕ → ℕ
round_at rounds d = (get_or rounds (d - 1) no_round).0

-- the CR records of crashes by drive: one for each drive of the mask, rising
unfoldable pub crash_of_drive : Crashes → ℕ → CrashRecord
crash_of_drive c d = record { drive = d; round = round_at c.rounds d; sends = get_or c.sends (d - 1) 0 }

unfoldable pub crashes_in : Crashes → List CrashRecord
crashes_in c = map (crash_of_drive c) (drives c.crashed)

-- no crash
abbrev pub no_crashes : Crashes
no_crashes = record { crashed = 0; rounds = replicate 64 no_round; sends = replicate 64 0 }

-- the crashes with that of one more drive
unfoldable pub with_crash : Crashes → ℕ → Round → ℕ → Crashes
with_crash c d round sends = record {
  crashed = union c.crashed (single d);
  rounds = set c.rounds (d - 1) round;
  sends = set c.sends (d - 1) sends;
}
