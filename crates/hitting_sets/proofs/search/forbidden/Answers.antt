-- The forbidden drives: the drives of m from the lowest on.
use Rattle.drive_sets.specs.Loops.Drives.{taken, lowest_bounds, taken_fewer}
use Rattle.hitting_sets.proofs.Forbids.{forbidding_start, forbidding_turn, forbidding_end}
use Rattle.drive_sets.specs.Masks.{union}
use Rattle.hitting_sets.proofs.search.forbidden.Goals as goal

pub loop-rest-init : goal.loop-rest-init
loop-rest-init c = forbidding_start _ _ c.ranges.m.fits

pub place-k-requires : goal.place-k-requires
place-k-requires c = lowest_bounds c.loop-rest.invariant.word c.loop-rest-test.true c.lowest-d.ensures

pub loop-rest-smaller : goal.loop-rest-smaller
loop-rest-smaller c = taken_fewer (taken c.loop-rest.invariant.word c.loop-rest-test.true c.lowest-d.ensures c.without_lowest-rest.ensures)

pub loop-rest-preserved : goal.loop-rest-preserved
unfolding union
loop-rest-preserved c =
    let l = c.loop-rest in
    forbidding_turn _ _ l.bar _ _ c.in_all_private-all.result l.invariant
    (taken l.invariant.word c.loop-rest-test.true c.lowest-d.ensures c.without_lowest-rest.ensures) c.place-k.ensures.0 c.minus-bar.ensures c.in_all_private-all.ensures

pub returns : goal.returns
returns c = forbidding_end _ _ _ _ c.loop-rest.invariant c.loop-rest-test.false
