-- The blocks, one for each named set.
use lib.ListN.{take}
use Rattle.verdict_search.specs.Verdicts.{sets_at}
use Rattle.verdict_search.proofs.Splitting.{Splitting}
use Rattle.verdict_search.proofs.form_blocks.Given as goal

abbrev pub invariant-loop-i : goal.invariant-loop-i
invariant-loop-i l = Splitting l.n (sets_at l.table (take l.k l.positions)) l.blocks l.taken l.i
