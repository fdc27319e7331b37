-- The search for k positions, by recursion on k: nothing where any k share a drive, else what is found from here on is
-- what the whole gives.
use Rattle.verdict_search.proofs.Loops.{Searching}
use Rattle.verdict_search.proofs.+disjoint.Given as goal

abbrev pub decreases-disjoint : goal.decreases-disjoint
decreases-disjoint l = l.k

abbrev pub invariant-loop-i : goal.invariant-loop-i
invariant-loop-i l = Searching l.k l.table l.from l.shared l.i
