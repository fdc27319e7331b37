-- A place that is missing from the words is missing from the column of a drive seen.
use Rattle.verdict_search.proofs.Asking.{Meeting}
use Rattle.drive_sets.specs.Masks.{size}
use Rattle.verdict_search.proofs.columns.each_meets.Given as goal

abbrev pub invariant-loop-rest : goal.invariant-loop-rest
invariant-loop-rest l = Meeting l.columns l.shared l.low l.high l.rest

abbrev pub decreases-loop-rest : goal.decreases-loop-rest
decreases-loop-rest l = size l.rest
