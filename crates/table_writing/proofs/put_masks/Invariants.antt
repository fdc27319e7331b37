-- The records of the masks, one behind the other.
use Rattle.table_writing.proofs.Writes.{Writing}
use Rattle.table_writing.proofs.put_masks.Given as goal

abbrev pub invariant-loop-i : goal.invariant-loop-i
invariant-loop-i l = Writing l.fn.kind l.initial.part l.masks l.part l.i
