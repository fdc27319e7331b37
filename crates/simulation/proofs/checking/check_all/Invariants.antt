-- The drives with a CR, from the lowest.
use Rattle.simulation.proofs.CrashChecks.{Checking}
use Rattle.simulation.proofs.checking.check_all.Given as goal

abbrev pub invariant-loop-d : goal.invariant-loop-d
invariant-loop-d l = Checking l.n l.core l.crashes l.d-iterator.0 l.last.0
