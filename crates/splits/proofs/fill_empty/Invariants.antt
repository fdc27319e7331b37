-- So many moves are still to come.
use mathlib.Core.Path.{◌≡◌}
use Prim.Native.Nat.{◌-◌}
use Rattle.splits.specs.Splits.{moves, fill_empty}
use Rattle.splits.proofs.fill_empty.Given as goal

abbrev pub invariant-loop : goal.invariant-loop
invariant-loop l = moves (l.end - l.counter) l.blocks ≡ fill_empty l.initial.blocks
