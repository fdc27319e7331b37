-- A field of one byte.
use native.Mathlib.Omega.{arith}
use Rattle.records.specs.Fields.Laws.{field_lt}
use Rattle.messages.proofs.reading.byte_at.Goals as goal

pub overflow_cast-result : goal.overflow_cast-result
overflow_cast-result c = let s = c in omega (arith, field_lt s.args.at 1 1 s.args.s.now (omega arith) (λ i. (c.type_inv.s i).fits), c.field.ensures)

pub returns : goal.returns
returns c = c.field.ensures
