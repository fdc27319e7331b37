-- A set's mark: the drives of the set from the lowest on.
use mathlib.Core.Path.{ap}
use Prim.Native.Nat.{ℕ, ◌+◌, ◌*◌}
use native.Mathlib.Omega.{arith}
use Rattle.drive_sets.specs.Masks.{union}
use Rattle.drive_sets.specs.Loops.Drives.{taken, lowest_bounds, taken_fewer}
use Rattle.hitting_sets.proofs.ColumnLaws.{marking_start, marking_turn, marking_end}
use Rattle.hitting_sets.proofs.marks.mark.Goals as goal

pub loop-rest-init : goal.loop-rest-init
loop-rest-init c = marking_start _ _ _ _ c.ranges.set.fits

pub place-requires : goal.place-requires
place-requires c = lowest_bounds c.loop-rest.invariant.word c.loop-rest-test.true c.lowest-d.ensures

pub loop-rest-smaller : goal.loop-rest-smaller
loop-rest-smaller c = taken_fewer (taken c.loop-rest.invariant.word c.loop-rest-test.true c.lowest-d.ensures c.without_lowest-rest.ensures)

pub loop-rest-preserved : goal.loop-rest-preserved
unfolding union
loop-rest-preserved c =
    let y = c.loop-rest.invariant in
    marking_turn y (omega (arith, y.same)) c.requires.0 (taken y.word c.loop-rest-test.true c.lowest-d.ensures c.without_lowest-rest.ensures) _
    (ap (λ (p : ℕ). 16 * p + c.args.i) c.place.ensures.0)

pub returns : goal.returns
returns c = marking_end c.loop-rest.invariant c.loop-rest-test.false
