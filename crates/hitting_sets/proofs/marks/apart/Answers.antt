-- The marks that are in no column of c: its drives from the lowest on.
use mathlib.Core.Path.{ap}
use Prim.Native.Nat.{ℕ, ◌*◌}
use Rattle.drive_sets.specs.Loops.Drives.{taken, lowest_bounds, taken_fewer}
use Rattle.drive_sets.specs.Masks.{common}
use Rattle.hitting_sets.proofs.FarMarks.{sparing_start, sparing_turn, sparing_end, sparing_none}
use Rattle.hitting_sets.proofs.marks.apart.Goals as goal

pub loop-rest-init : goal.loop-rest-init
unfolding common
loop-rest-init c = sparing_start _ _ _ _ _ c.ranges.c.fits c.first_places.ensures

pub place-k-requires : goal.place-k-requires
place-k-requires c = lowest_bounds c.loop-rest.invariant.left c.loop-rest-test.true c.lowest.ensures

pub loop-rest-smaller : goal.loop-rest-smaller
loop-rest-smaller c = taken_fewer (taken c.loop-rest.invariant.left c.loop-rest-test.true c.lowest.ensures c.without_lowest-rest.ensures)

pub loop-rest-preserved : goal.loop-rest-preserved
loop-rest-preserved c =
    let y = c.loop-rest.invariant in
    sparing_turn y (taken y.left c.loop-rest-test.true c.lowest.ensures c.without_lowest-rest.ensures) _ _ (ap (λ (p : ℕ). 16 * p) c.place-k.ensures.0) c.minus-far.ensures

pub returns-else-far-ne0 : goal.returns-else-far-ne0
returns-else-far-ne0 c = sparing_none c.loop-rest.invariant c.if-far-ne0.false

pub returns-after-loop-rest : goal.returns-after-loop-rest
returns-after-loop-rest c = sparing_end c.loop-rest.invariant c.loop-rest-test.false
