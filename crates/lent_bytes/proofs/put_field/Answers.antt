-- One byte more of the field.
use native.Mathlib.Omega.{arith}
use Rattle.drive_sets.specs.Loops.Filling.{filling_turn}
use Rattle.lent_bytes.proofs.FieldWrites.{field_next}
use Rattle.lent_bytes.proofs.put_field.Goals as goal

pub loop-i-preserved : goal.loop-i-preserved
loop-i-preserved c = filling_turn c.loop-i.invariant (omega arith) _ _ (field_next _ _ _ c.loop-i-test.true)
