-- The three refusals of a CR, one after the other.
use borrow.Author.Tests.{lt-ltb, le-ltb}
use Rattle.runs.specs.CrashRecords.{checked_crash}
use Rattle.drive_crashes.specs.Crashes.{crash_record}
use Rattle.drive_crashes.proofs.check_crash.Goals as goal

pub returns-then-not-is_next : goal.returns-then-not-is_next
unfolding crash_record checked_crash
returns-then-not-is_next c = rw (← c.is_next.ensures, c.if-not-is_next.true)

pub returns-then-not-is_round : goal.returns-then-not-is_round
unfolding crash_record checked_crash
returns-then-not-is_round c = rw (← c.is_next.ensures, c.if-not-is_next.false, ← c.is_round.ensures, c.if-not-is_round.true)

pub returns-then-most_sends-sends : goal.returns-then-most_sends-sends
unfolding crash_record checked_crash
returns-then-most_sends-sends c = rw (← c.is_next.ensures, c.if-not-is_next.false, ← c.is_round.ensures, c.if-not-is_round.false, ← c.most_sends.ensures, lt-ltb _ _ c.if-most_sends-sends.true)

pub returns : goal.returns
unfolding crash_record checked_crash
returns c = rw (← c.is_next.ensures, c.if-not-is_next.false, ← c.is_round.ensures, c.if-not-is_round.false, ← c.most_sends.ensures, le-ltb _ _ c.if-most_sends-sends.false)
