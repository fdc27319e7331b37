-- The forbidden drives: the drives of m from the lowest on.
use Rattle.hitting_sets.proofs.Forbids.{Forbidding}
use Rattle.drive_sets.specs.Masks.{size}
use Rattle.hitting_sets.proofs.search.forbidden.Given as goal

abbrev pub invariant-loop-rest : goal.invariant-loop-rest
invariant-loop-rest l = Forbidding l.sets l.m l.rest l.bar

abbrev pub decreases-loop-rest : goal.decreases-loop-rest
decreases-loop-rest l = size l.rest
