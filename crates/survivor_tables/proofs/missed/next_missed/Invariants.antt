-- Each set tested, one after the other.
use Prim.Native.Nat.{◌+◌}
use lib.ListN.{drop}
use Rattle.drive_sets.specs.Masks.{meets}
use Rattle.drive_sets.specs.Lists.{first_failing}
use Rattle.drive_sets.specs.Loops.Scan.{Scan}
use Rattle.survivor_tables.specs.Hitting.{missed_from}
use Rattle.survivor_tables.proofs.missed.next_missed.Given as goal

abbrev pub invariant-loop-i : goal.invariant-loop-i
invariant-loop-i l = Scan (missed_from (l.seen + 1) (drop l.seen l.sets) l.m) (first_failing (l.i + 1) (λ s. meets s l.m)) l.sets l.i
