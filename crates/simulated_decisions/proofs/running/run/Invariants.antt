-- The openings, then round after round.
use Rattle.simulated_decisions.proofs.AllRounds.{Running}
use Rattle.simulated_decisions.proofs.running.run.Given as goal

abbrev pub invariant-loop-r : goal.invariant-loop-r
invariant-loop-r l = Running l.n l.core l.crashes l.initial.states l.states l.found l.r
