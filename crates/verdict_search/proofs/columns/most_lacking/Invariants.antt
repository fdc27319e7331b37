-- The most of the sets seen.
use Rattle.verdict_search.proofs.Building.{Most}
use Rattle.verdict_search.proofs.columns.most_lacking.Given as goal

abbrev pub invariant-loop-set : goal.invariant-loop-set
invariant-loop-set l = Most l.table l.frame l.most l.set-index
