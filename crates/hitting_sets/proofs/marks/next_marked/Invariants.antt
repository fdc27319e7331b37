-- The first mark: word after word from the one of the first set that is not seen.
use Prim.Native.Nat.{◌*◌}
use Rattle.hitting_sets.proofs.FirstMarks.{MetBefore}
use Rattle.hitting_sets.proofs.marks.next_marked.Given as goal

abbrev pub invariant-loop-i : goal.invariant-loop-i
invariant-loop-i l = MetBefore l.sets l.m (64 * l.i)
