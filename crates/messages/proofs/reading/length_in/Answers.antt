-- The product and the sums fit.
use mathlib.Core.Path.{sym, subst}
use Prim.Native.Nat.{ℕ, ◌*◌, ◌≤◌}
use native.Mathlib.Nat.{mul-le-mul_right}
use native.Mathlib.Omega.{arith}
use Rattle.drive_sets.specs.Masks.Sizes.{size_le}
use Rattle.records.specs.Marks.Laws.{number_most}
use Rattle.messages.proofs.reading.length_in.Goals as goal

pub overflow_add-result : goal.overflow_add-result
overflow_add-result c = omega (arith, c.number_width-width.ensures, number_most c.args.kind)

pub overflow_mul-result : goal.overflow_mul-result
overflow_mul-result c =
    let width = c.number_width-width in
    let few = mul-le-mul_right c.size-count.result (number_most c.args.kind) in
    omega (arith, subst (λ (w : ℕ). w * c.size-count.result ≤ 4 * c.size-count.result) (sym width.ensures) few, c.size-count.ensures, size_le c.mask_of.result)

pub overflow_add-result-2 : goal.overflow_add-result-2
overflow_add-result-2 c =
    let width = c.number_width-width in
    let few = mul-le-mul_right c.size-count.result (number_most c.args.kind) in
    omega (arith, subst (λ (w : ℕ). w * c.size-count.result ≤ 4 * c.size-count.result) (sym width.ensures) few, c.size-count.ensures, size_le c.mask_of.result)
