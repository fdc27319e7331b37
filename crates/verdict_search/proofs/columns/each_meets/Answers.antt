-- A place that is missing from the words is missing from the column of a drive seen.
use Rattle.verdict_search.proofs.Asking.{index_has, meeting_start, meeting_turn, meeting_end}
use Rattle.drive_sets.specs.Loops.Drives.{taken, taken_has, taken_fewer}
use Rattle.drive_sets.specs.Masks.{common}
use Rattle.verdict_search.proofs.columns.each_meets.Goals as goal

pub loop-rest-init : goal.loop-rest-init
loop-rest-init c = meeting_start _ _ c.ranges.shared.fits

pub returns-then-low-high-eq0 : goal.returns-then-low-high-eq0
unfolding common
returns-then-low-high-eq0 c = λ e. meeting_end _ c.loop-rest.invariant (index_has c.loop-rest.invariant.word c.loop-rest-test.true c.lowest_index-at.ensures.0) c.if-low-high-eq0.true

pub loop-rest-smaller : goal.loop-rest-smaller
loop-rest-smaller c = taken_fewer (taken c.loop-rest.invariant.word c.loop-rest-test.true c.lowest_index-at.ensures.0 c.without_lowest-rest.ensures)

pub loop-rest-preserved : goal.loop-rest-preserved
unfolding common
loop-rest-preserved c = let t = taken c.loop-rest.invariant.word c.loop-rest-test.true c.lowest_index-at.ensures.0 c.without_lowest-rest.ensures in meeting_turn _ c.loop-rest.invariant (taken_has t) t
