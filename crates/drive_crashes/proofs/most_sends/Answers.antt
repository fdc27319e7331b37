-- The sends that a CR may have, of a core drive and of a listener.
use Rattle.runs.specs.CrashRecords.{most_sends}
use Rattle.drive_crashes.proofs.most_sends.Goals as goal

pub returns-then-has : goal.returns-then-has
unfolding most_sends
returns-then-has c = rw (← c.has.ensures, c.if-has.true) c.saturating_sub.ensures

pub returns-else-has : goal.returns-else-has
unfolding most_sends
returns-else-has c = rw (← c.has.ensures, c.if-has.false)
