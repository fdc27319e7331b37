-- The columns of the drives from the lowest on.
use Rattle.verdict_search.proofs.Building.{Putting}
use Rattle.drive_sets.specs.Masks.{size}
use Rattle.verdict_search.proofs.columns.put_place.Given as goal

abbrev pub invariant-loop-rest : goal.invariant-loop-rest
invariant-loop-rest l = Putting l.initial.columns l.columns l.place l.lacking l.rest

abbrev pub decreases-loop-rest : goal.decreases-loop-rest
decreases-loop-rest l = size l.rest
