-- The columns of the drives from the lowest on.
use Rattle.verdict_search.proofs.Building.{putting_turn, putting_end}
use Rattle.drive_sets.specs.Loops.Drives.{taken, taken_fewer}
use Rattle.drive_sets.specs.Masks.{union}
use Rattle.verdict_search.proofs.columns.put_place.Goals as goal

pub loop-rest-smaller : goal.loop-rest-smaller
loop-rest-smaller c = taken_fewer (taken c.loop-rest.invariant.word c.loop-rest-test.true c.lowest_index.ensures.0 c.without_lowest-rest.ensures)

pub loop-rest-preserved : goal.loop-rest-preserved
unfolding union
loop-rest-preserved c = putting_turn c.loop-rest.invariant (taken c.loop-rest.invariant.word c.loop-rest-test.true c.lowest_index.ensures.0 c.without_lowest-rest.ensures) c.requires.0 c.requires.1 _ c.single-bit.ensures

pub returns : goal.returns
returns c = putting_end c.loop-rest.invariant c.loop-rest-test.false
