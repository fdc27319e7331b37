-- The columns: set after set, as far as there are places.
use Rattle.hitting_sets.proofs.ColumnLaws.{Filling}
use Rattle.hitting_sets.proofs.marks.fill.Given as goal

abbrev pub invariant-loop-at : goal.invariant-loop-at
invariant-loop-at l = Filling l.sets l.columns l.at
