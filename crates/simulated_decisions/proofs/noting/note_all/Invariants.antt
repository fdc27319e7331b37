-- The drives one after the other.
use Rattle.simulated_decisions.proofs.FirstDecisions.{Noting}
use Rattle.simulated_decisions.proofs.noting.note_all.Given as goal

abbrev pub invariant-loop-i : goal.invariant-loop-i
invariant-loop-i l = Noting l.initial.found l.states l.round.0 l.found l.i
