-- The columns of the drives from the lowest on.
use Rattle.drive_sets.specs.Masks.{size}
use Prim.Native.Nat.{◌^◌, ◌<◌}
use Rattle.verdict_search.proofs.columns.count_lacking.Given as goal

abbrev pub invariant-loop-rest : goal.invariant-loop-rest
invariant-loop-rest l = l.rest < 2 ^ 64

abbrev pub decreases-loop-rest : goal.decreases-loop-rest
decreases-loop-rest l = size l.rest
