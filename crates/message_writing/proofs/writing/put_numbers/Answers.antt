-- The mask's drives from the lowest, each number behind the one before.
use mathlib.Core.Path.{refl}
use native.Mathlib.Omega.{arith}
use Rattle.drive_sets.specs.Loops.Drives.{taken, taken_fewer, lowest_bounds}
use Rattle.drive_states.specs.State.{number_in}
use Rattle.message_writing.proofs.Writes.{numbers_none, telling_start, telling_turn, telling_end}
use Rattle.message_writing.proofs.writing.put_numbers.Goals as goal

pub returns-then-part-size : goal.returns-then-part-size
unfolding number_in
returns-then-part-size c = let a = c.args in numbers_none (number_in a.numbers) a.mask a.part.now _ c.size.ensures c.if-part-size.true

pub loop-m-init : goal.loop-m-init
unfolding number_in
loop-m-init c = let s = c in telling_start (number_in s.args.numbers) s.args.mask s.args.part.now _ s.ranges.mask.fits c.size.ensures c.if-part-size.false

pub overflow_sub-v : goal.overflow_sub-v
unfolding number_in
overflow_sub-v c = let b = lowest_bounds c.loop-m.invariant.word c.loop-m-test.true c.lowest-d.ensures in omega (arith, b.0, b.1)

pub bounds-numbers-i : goal.bounds-numbers-i
unfolding number_in
bounds-numbers-i c = let b = lowest_bounds c.loop-m.invariant.word c.loop-m-test.true c.lowest-d.ensures in omega (arith, b.0, b.1)

pub loop-m-smaller : goal.loop-m-smaller
unfolding number_in
loop-m-smaller c = taken_fewer (taken c.loop-m.invariant.word c.loop-m-test.true c.lowest-d.ensures c.without_lowest-m.ensures)

pub loop-m-preserved : goal.loop-m-preserved
unfolding number_in
loop-m-preserved c = telling_turn (number_in c.args.numbers) _ _ _ _ c.loop-m.invariant c.loop-m-test.true c.lowest-d.ensures refl c.put_field.ensures c.without_lowest-m.ensures

pub shape_of-part : goal.shape_of-part
unfolding number_in
shape_of-part c = c.loop-m.invariant.long

pub returns : goal.returns
unfolding number_in
returns c = telling_end (number_in c.args.numbers) c.loop-m.invariant c.loop-m-test.false
