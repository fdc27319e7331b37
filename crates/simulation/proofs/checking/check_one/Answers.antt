-- The record that the two arrays say.
use Rattle.drive_crashes.specs.Crashes.{crash_of_drive, crash_record}
use Rattle.simulation.proofs.checking.check_one.Goals as goal

pub returns : goal.returns
unfolding crash_record crash_of_drive
returns c = c.check_crash.ensures
