-- The first decisions, the core and f.
use lib.Bits.{bit_and}
use native.Mathlib.Omega.{arith}
use Rattle.drive_sets.specs.Masks.Sizes.{size_le}
use Rattle.drive_sets.specs.Masks.{common}
use Rattle.simulation.specs.Endings.{told_by, endings_in}
use Rattle.simulation.proofs.Results.{result_is}
use Rattle.simulation.proofs.simulating.result_on.Goals as goal

pub overflow_cast-result : goal.overflow_cast-result
overflow_cast-result c = let a = c.args in omega (arith, c.size.ensures, size_le (bit_and a.core a.crashes.now.crashed))

pub returns : goal.returns
unfolding told_by endings_in common
returns c s t = let a = c.args in result_is a.n a.core a.crashes.now s t.says t.valid _ (c.first_decisions.ensures.value s t) _ c.size.ensures
