-- The columns of the drives from the lowest on.
use Rattle.drive_sets.specs.Loops.Drives.{taken, taken_fewer}
use Rattle.verdict_search.proofs.columns.count_lacking.Goals as goal

pub loop-rest-smaller : goal.loop-rest-smaller
loop-rest-smaller c = taken_fewer (taken c.loop-rest.invariant c.loop-rest-test.true c.lowest_index-i.ensures.0 c.without_lowest-rest.ensures)
