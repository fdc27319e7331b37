-- A set's mark: the drives of the set from the lowest on.
use Rattle.drive_sets.specs.Masks.{size}
use Rattle.hitting_sets.proofs.ColumnLaws.{Marking}
use Rattle.hitting_sets.proofs.marks.mark.Given as goal

abbrev pub invariant-loop-rest : goal.invariant-loop-rest
invariant-loop-rest l = Marking l.initial.columns l.columns l.set l.i l.bit l.rest

abbrev pub decreases-loop-rest : goal.decreases-loop-rest
decreases-loop-rest l = size l.rest
