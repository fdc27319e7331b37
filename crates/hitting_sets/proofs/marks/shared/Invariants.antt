-- What the sets that are marked in both share of c, word after word.
use Prim.Native.Nat.{◌+◌, ◌-◌, ◌*◌, ◌<◌}
use lib.ListN.{length, get_or}
use Rattle.drive_sets.specs.Masks.{common}
use Rattle.hitting_sets.proofs.InMarked.{CuttingAll}
use Rattle.hitting_sets.proofs.marks.shared.Given as goal

abbrev pub invariant-loop-i : goal.invariant-loop-i
invariant-loop-i l = (64 * l.i < length l.sets + 64) × CuttingAll l.sets (λ j. common (get_or l.once j 0) (get_or l.column j 0)) l.c l.i l.all

abbrev pub decreases-loop-i : goal.decreases-loop-i
decreases-loop-i l = length l.sets - l.i
