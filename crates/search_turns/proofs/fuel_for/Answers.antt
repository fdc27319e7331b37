-- A quotient is not larger than what is divided.
use Prim.Native.Nat.{◌+◌}
use native.Mathlib.Nat.{div-le_self}
use native.Mathlib.Omega.{arith}
use Rattle.search_turns.proofs.fuel_for.Goals as goal

pub overflow_add-result-2 : goal.overflow_add-result-2
overflow_add-result-2 c = record { fits = omega (arith, div-le_self c.args.work (c.args.n + 16)) }
