-- A set of the frame, two tests.
use Rattle.survivor_tables.specs.Tables.{is_set}
use borrow.Author.Tests.{eq-eqb, ne_eqb}
use Rattle.survivor_tables.proofs.frames.is_set.Goals as goal

pub returns-then-s-ne0 : goal.returns-then-s-ne0
unfolding is_set
returns-then-s-ne0 c = rw (c.subset.ensures, c.full.ensures, ne_eqb _ 0 c.if-s-ne0.true)

pub returns-else-s-ne0 : goal.returns-else-s-ne0
unfolding is_set
returns-else-s-ne0 c = rw (eq-eqb _ 0 c.if-s-ne0.false)
