-- A field read from its last byte to its first.
use native.Mathlib.Omega.{arith}
use Rattle.std.proofs.lemmas.Grind.{common_steps}
use Rattle.records.proofs.Loops.{reading_start, reading_turn, reading_fits, reading_end}
use Rattle.records.proofs.from_bytes.Goals as goal

pub overflow_mul-x : goal.overflow_mul-x
overflow_mul-x c = omega (arith, reading_fits c.args.s.now _ _ c.loop-b.invariant.2 c.in-Some.ensures.steps (λ j. (c.type_inv.s j).fits))

pub overflow_add-x : goal.overflow_add-x
overflow_add-x c = omega (arith, c.from.ensures, reading_fits c.args.s.now _ _ c.loop-b.invariant.2 c.in-Some.ensures.steps (λ j. (c.type_inv.s j).fits))

pub loop-b-init : goal.loop-b-init
loop-b-init c = (tt, tt, reading_start c.args.s.now (grind (arith, common_steps)))

pub loop-b-preserved : goal.loop-b-preserved
loop-b-preserved c = (tt, tt, rw c.from.ensures (reading_turn c.args.s.now _ _ c.loop-b.invariant.2 c.in-Some.ensures.steps))

pub returns : goal.returns
returns c = reading_end c.args.s.now c.loop-b.invariant.2 c.in-None.ensures.steps.0
