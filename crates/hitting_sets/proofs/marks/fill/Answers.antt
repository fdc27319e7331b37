-- The columns: set after set, as far as there are places.
use native.Mathlib.Omega.{arith}
use borrow.Author.Rules.{rules}
use Rattle.hitting_sets.proofs.ColumnLaws.{filling_start, filling_turn, filling_done}
use Rattle.hitting_sets.proofs.marks.fill.Goals as goal

pub loop-at-init : goal.loop-at-init
loop-at-init c = filling_start _ _ c.requires

pub loop-at-preserved : goal.loop-at-preserved
loop-at-preserved c = filling_turn c.loop-at.invariant (omega arith) _ _ c.single-bit.ensures (search rules) c.mark.ensures

pub returns : goal.returns
returns c = filling_done c.loop-at.invariant (omega arith)
