-- Two positions: for each set the first apart from what it shares; what is found from here on is what the whole gives.
use Rattle.verdict_search.proofs.Loops.{Searching}
use Rattle.verdict_search.proofs.first_pair.Given as goal

abbrev pub invariant-loop-i : goal.invariant-loop-i
invariant-loop-i l = Searching 2 l.table l.from l.shared l.i
