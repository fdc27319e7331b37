-- The drives one after the other.
use borrow.Author.Rules.{rules}
use Rattle.simulated_decisions.proofs.Openings.{open_start, open_turn, open_end}
use native.Mathlib.Omega.{arith}
use Rattle.simulated_decisions.proofs.opened.open_all.Goals as goal

pub loop-i-init : goal.loop-i-init
loop-i-init c = let a = c.args in open_start a.n a.core a.numbers.now _ (search rules)

pub loop-i-preserved : goal.loop-i-preserved
loop-i-preserved c = let a = c.args in let l = c.loop-i in open_turn a.n a.core a.numbers.now l.all l.i _ l.invariant (omega arith) c.initial.ensures

pub returns : goal.returns
returns c = let a = c.args in let l = c.loop-i in open_end a.n a.core a.numbers.now l.all l.i l.invariant (omega arith)
