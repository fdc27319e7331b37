-- The frame's size, two tests.
use Rattle.survivor_tables.specs.Tables.{is_frame}
use borrow.Author.Tests.{le-leb, lt-leb}
use Rattle.survivor_tables.proofs.frames.is_frame.Goals as goal

pub returns-then-n-ge1 : goal.returns-then-n-ge1
unfolding is_frame
returns-then-n-ge1 c = rw (le-leb 1 _ c.if-n-ge1.true)

pub returns-else-n-ge1 : goal.returns-else-n-ge1
unfolding is_frame
returns-else-n-ge1 c = rw (lt-leb 1 _ c.if-n-ge1.false)
