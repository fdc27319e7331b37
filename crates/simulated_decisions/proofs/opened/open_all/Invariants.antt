-- The drives one after the other.
use Rattle.simulated_decisions.proofs.Openings.{Opening}
use Rattle.simulated_decisions.proofs.opened.open_all.Given as goal

abbrev pub invariant-loop-i : goal.invariant-loop-i
invariant-loop-i l = Opening l.n l.core l.numbers l.all l.i
