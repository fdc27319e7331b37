-- The drives one after the other, over zeros.
use Rattle.simulated_decisions.specs.Endings.{ending_at}
use Rattle.run_calls.proofs.Simulates.{Putting}
use Rattle.run_calls.proofs.simulating.endings_of.Given as goal

abbrev pub invariant-loop-i : goal.invariant-loop-i
invariant-loop-i l = Putting l.n (ending_at l.s.crashed l.s.found) l.drives l.i
