-- A field read from its last byte to its first: the iterator has the bytes that are left.
use Rattle.std.specs.Iterator.Adapters.{rev_source}
use Rattle.std.specs.Slice.Iter.{iter_rest}
use Rattle.records.proofs.Loops.{Reading}
use Rattle.records.proofs.from_bytes.Given as goal

abbrev pub invariant-loop-b : goal.invariant-loop-b
invariant-loop-b l =
    (goal.iterator-loop-b).can_next l.b-iterator × (goal.iterator-loop-b).is_finite l.b-iterator × Reading l.s (iter_rest (rev_source l.b-iterator)) l.x
