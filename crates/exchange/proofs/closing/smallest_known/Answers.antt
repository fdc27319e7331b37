-- The known drives from the lowest, each number against the smallest so far.
use native.Mathlib.Omega.{arith}
use Rattle.drive_sets.specs.Lists.{smallest}
use Rattle.drive_sets.specs.Masks.Sizes.{drives_none}
use Rattle.drive_sets.specs.Loops.Drives.{taken}
use Rattle.drive_states.specs.State.{number_in, number_of}
use Rattle.agreement.specs.Calls.{decision_on}
use Rattle.exchange.proofs.Least.{least_start, least_turn, least_end}
use Rattle.exchange.proofs.closing.smallest_known.Goals as goal

pub returns-then-x-eq0 : goal.returns-then-x-eq0
unfolding decision_on smallest
returns-then-x-eq0 c = rw (c.if-x-eq0.true, drives_none)

pub loop-m-init : goal.loop-m-init
unfolding number_of number_in
loop-m-init c = let s = c in least_start (number_of s.args.x.now) (taken (omega arith) c.if-x-eq0.false c.lowest-first.ensures c.without_lowest-m.ensures)

pub loop-m-preserved : goal.loop-m-preserved
unfolding number_of number_in
loop-m-preserved c = let l = c.loop-m in let a = c.args in least_turn (number_of a.x.now) a.x.now.known l.best.0 l.m _ l.invariant (taken l.invariant.word c.loop-m-test.true c.lowest-d.ensures c.without_lowest-m-in-loop-m.ensures) c.min.ensures

pub returns : goal.returns
unfolding number_of number_in
returns c = let l = c.loop-m in let a = c.args in least_end (number_of a.x.now) a.x.now.known l.best.0 l.m l.invariant c.loop-m-test.false
