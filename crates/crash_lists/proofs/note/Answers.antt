-- The crash of one more drive, at its place, which both arrays have: the drive is one of 1 to 64.
use Rattle.drive_crashes.specs.Crashes.{with_crash}
use Rattle.crash_lists.proofs.note.Goals as goal

pub returns : goal.returns
unfolding with_crash
returns c = rw c.insert-crashes.ensures
