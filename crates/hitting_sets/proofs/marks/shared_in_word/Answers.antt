-- What the sets that a word marks share of c, set after set.
use mathlib.Core.Path.{refl, ap}
use Prim.Native.Nat.{ℕ, ◌+◌}
use borrow.Author.Rules.{rules}
use Rattle.drive_sets.specs.Masks.{common}
use Rattle.drive_sets.specs.Loops.Drives.{taken, lowest_bounds, taken_fewer}
use Rattle.hitting_sets.proofs.InMarked.{cutting_start, cutting_turn, cutting_past, cutting_end, cutting_none}
use Rattle.hitting_sets.proofs.marks.shared_in_word.Goals as goal

pub loop-rest-init : goal.loop-rest-init
loop-rest-init c = cutting_start _ _ _ _ c.ranges.word.fits

pub place-requires : goal.place-requires
place-requires c = lowest_bounds c.loop-rest.invariant.left c.loop-rest-test.true c.lowest.ensures

pub returns-then-sets-at : goal.returns-then-sets-at
returns-then-sets-at c = let y = c.loop-rest.invariant in cutting_past y (taken y.left c.loop-rest-test.true c.lowest.ensures refl) _ (ap (λ (k : ℕ). c.args.base + k) c.place.ensures.0) c.if-sets-at.true

pub loop-rest-smaller : goal.loop-rest-smaller
loop-rest-smaller c = taken_fewer (taken c.loop-rest.invariant.left c.loop-rest-test.true c.lowest.ensures c.without_lowest-rest.ensures)

pub loop-rest-preserved : goal.loop-rest-preserved
unfolding common
loop-rest-preserved c =
    let y = c.loop-rest.invariant in
    cutting_turn y (taken y.left c.loop-rest-test.true c.lowest.ensures c.without_lowest-rest.ensures) _ (ap (λ (k : ℕ). c.args.base + k) c.place.ensures.0) (search rules)

pub returns-else-all-ne0 : goal.returns-else-all-ne0
returns-else-all-ne0 c = cutting_none c.loop-rest.invariant c.if-all-ne0.false

pub returns-after-loop-rest : goal.returns-after-loop-rest
returns-after-loop-rest c = cutting_end c.loop-rest.invariant c.loop-rest-test.false
