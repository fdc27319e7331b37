-- Each block tested, one after the other.
use Prim.Native.Nat.{◌+◌}
use lib.Dec.{leb}
use Rattle.drive_sets.specs.Masks.{size}
use Rattle.drive_sets.specs.Lists.{first_failing}
use Rattle.drive_sets.specs.Loops.Scan.{Scan}
use Rattle.splits.specs.Splits.{first_large}
use Rattle.splits.proofs.first_large.Given as goal

abbrev pub invariant-loop-i : goal.invariant-loop-i
invariant-loop-i l = Scan (first_large l.blocks) (first_failing (l.i + 1) (λ b. leb (size b) 1)) l.blocks l.i
