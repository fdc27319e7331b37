-- One mask of a list, by what the list holds: the tests in order.
use borrow.Author.Tests.{eq-eqb, ne_eqb}
use Rattle.survivor_tables.specs.Tables.{checked_mask}
use Rattle.survivor_tables.proofs.frames.check_mask.Goals as goal

pub returns-then-not-is_set : goal.returns-then-not-is_set
unfolding checked_mask
returns-then-not-is_set c = rw (c.in-SurvivorSet.is, ← c.is_set.ensures, c.if-not-is_set.true)

pub returns-then-not-subset : goal.returns-then-not-subset
unfolding checked_mask
returns-then-not-subset c = rw (c.in-FaultGroup.is, ← c.full-all.ensures, ← c.subset.ensures, c.if-not-subset.true)

pub returns-then-m-all : goal.returns-then-m-all
unfolding checked_mask
returns-then-m-all c = rw (c.in-FaultGroup.is, ← c.full-all.ensures, ← c.subset.ensures, c.if-not-subset.false, eq-eqb _ _ c.if-m-all.true)

pub returns-else-not-is_set : goal.returns-else-not-is_set
unfolding checked_mask
returns-else-not-is_set c = rw (c.in-SurvivorSet.is, ← c.is_set.ensures, c.if-not-is_set.false)

pub returns-else-m-all : goal.returns-else-m-all
unfolding checked_mask
returns-else-m-all c = rw (c.in-FaultGroup.is, ← c.full-all.ensures, ← c.subset.ensures, c.if-not-subset.false, ne_eqb _ _ c.if-m-all.false)
