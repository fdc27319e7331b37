-- A drive of the frame, above the last.
use Rattle.drive_crashes.proofs.Orders.{by_lt}
use Rattle.runs.specs.CrashRecords.{is_next}
use Rattle.drive_crashes.proofs.is_next.Goals as goal

pub returns-then-is_drive : goal.returns-then-is_drive
unfolding is_next
returns-then-is_drive c = rw (← c.is_drive.ensures, c.if-is_drive.true) (by_lt c.args.last.0 c.args.drive.0 (cc))

pub returns-else-is_drive : goal.returns-else-is_drive
unfolding is_next
returns-else-is_drive c = rw (← c.is_drive.ensures, c.if-is_drive.false)
