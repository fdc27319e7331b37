-- What is not forbidden: by the sets, or by the marks, the drives of m from the lowest on.
use Prim.Native.Nat.{◌-◌}
use lib.ListN.{get_or, take}
use Rattle.drive_sets.specs.Masks.{size}
use Rattle.hitting_sets.specs.Marks.{Apart}
use Rattle.hitting_sets.proofs.Allowing.{Allowing}
use Rattle.hitting_sets.proofs.search.allowed.Given as goal

abbrev pub invariant-loop-rest : goal.invariant-loop-rest
invariant-loop-rest l = Allowing (take (l.next - 0) l.sets) (get_or l.sets l.next 0) l.m l.rest l.c × Apart (take (l.next - 0) l.sets) l.once l.far l.c

abbrev pub decreases-loop-rest : goal.decreases-loop-rest
decreases-loop-rest l = size l.rest
