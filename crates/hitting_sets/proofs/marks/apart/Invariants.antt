-- The marks that are in no column of c: its drives from the lowest on.
use Rattle.drive_sets.specs.Masks.{size}
use Rattle.hitting_sets.proofs.FarMarks.{Sparing}
use Rattle.hitting_sets.proofs.marks.apart.Given as goal

abbrev pub invariant-loop-rest : goal.invariant-loop-rest
invariant-loop-rest l = Sparing l.columns l.word l.n l.c l.rest l.far

abbrev pub decreases-loop-rest : goal.decreases-loop-rest
decreases-loop-rest l = size l.rest
