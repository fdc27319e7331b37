-- The known drives from the lowest, each number against the smallest so far.
use Rattle.drive_sets.specs.Masks.{size}
use Rattle.drive_states.specs.State.{number_of}
use Rattle.exchange.proofs.Least.{Least}
use Rattle.exchange.proofs.closing.smallest_known.Given as goal

abbrev pub invariant-loop-m : goal.invariant-loop-m
invariant-loop-m l = Least (number_of l.x) l.x.known l.best.0 l.m

abbrev pub decreases-loop-m : goal.decreases-loop-m
decreases-loop-m l = size l.m
