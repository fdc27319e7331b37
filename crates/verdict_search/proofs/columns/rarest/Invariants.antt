-- The drives from the lowest on, the best of those seen.
use Rattle.verdict_search.proofs.Asking.{Choosing}
use Rattle.drive_sets.specs.Masks.{size}
use Rattle.verdict_search.proofs.columns.rarest.Given as goal

abbrev pub invariant-loop-rest : goal.invariant-loop-rest
invariant-loop-rest l = Choosing l.shared l.best l.rest

abbrev pub decreases-loop-rest : goal.decreases-loop-rest
decreases-loop-rest l = size l.rest
