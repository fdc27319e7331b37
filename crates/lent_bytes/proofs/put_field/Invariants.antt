-- A field written from its first byte to its last; nothing where it does not fit.
use Prim.Native.Nat.{◌-◌}
use Rattle.drive_sets.specs.Loops.Filling.{Filling}
use Rattle.records.specs.Fields.{to_bytes}
use Rattle.lent_bytes.proofs.put_field.Given as goal

abbrev pub invariant-loop-i : goal.invariant-loop-i
invariant-loop-i l = Filling l.initial.part l.part l.i (to_bytes (l.width - l.i) l.rest) (to_bytes l.width l.x)
