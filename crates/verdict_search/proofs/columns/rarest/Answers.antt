-- The drives from the lowest on, the best of those seen.
use Rattle.verdict_search.proofs.Asking.{choosing_end, choosing_start, choosing_turn}
use Rattle.drive_sets.specs.Loops.Drives.{taken, taken_fewer}
use mathlib.Core.Logic.{inl, inr}
use Rattle.verdict_search.proofs.columns.rarest.Goals as goal
use Rattle.verdict_search.proofs.columns.rarest.Goals.{then-count-least, else-count-least}

pub loop-rest-init : goal.loop-rest-init
loop-rest-init c = choosing_start (taken c.ranges.shared.fits c.requires c.lowest_index-best.ensures.0 c.without_lowest-rest.ensures)

pub loop-rest-smaller : goal.loop-rest-smaller
loop-rest-smaller c = taken_fewer (taken c.loop-rest.invariant.word c.loop-rest-test.true c.lowest_index-i.ensures.0 c.without_lowest-rest-in-loop-rest.ensures)

pub loop-rest-preserved : goal.loop-rest-preserved
loop-rest-preserved c = choosing_turn _ c.loop-rest.invariant (taken c.loop-rest.invariant.word c.loop-rest-test.true c.lowest_index-i.ensures.0 c.without_lowest-rest-in-loop-rest.ensures) (elim c.if-count-least.branch [ then-count-least w ↦ inl w.best-is | else-count-least w ↦ inr w.best-is ])

pub returns : goal.returns
returns c = choosing_end c.ranges.shared.fits c.loop-rest.invariant
