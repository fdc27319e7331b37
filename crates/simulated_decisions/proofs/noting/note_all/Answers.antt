-- The drives one after the other.
use borrow.Author.Rules.{rules}
use native.Mathlib.Omega.{arith}
use Rattle.simulated_decisions.proofs.FirstDecisions.{note_start, note_turn, note_end}
use Rattle.simulated_decisions.proofs.noting.note_all.Goals as goal

pub loop-i-init : goal.loop-i-init
loop-i-init c = let a = c.args in note_start a.found.now a.states.now a.round.0 (search rules)

pub loop-i-preserved : goal.loop-i-preserved
loop-i-preserved c = let a = c.args in let l = c.loop-i in note_turn a.found.now a.states.now a.round.0 l.found l.i _ l.invariant (omega arith) c.first_decision.ensures

pub returns : goal.returns
returns c = let a = c.args in let l = c.loop-i in note_end a.found.now a.states.now a.round.0 a.n l.found l.i l.invariant (omega arith)
