-- The most of the sets seen.
use Rattle.verdict_search.proofs.Building.{most_end}
use Rattle.verdict_search.proofs.columns.most_lacking.Goals as goal

pub returns : goal.returns
returns c = most_end c.loop-set.invariant c.loop-set-test.false
