-- Four bytes, the lowest two of them, or none.
use mathlib.Core.Path.{sym, ap, ◌∙◌}
use Prim.Native.Nat.{ℕ, ◌%◌}
use native.Mathlib.Omega.{arith}
use lib.ListN.{drop}
use Rattle.records.specs.Fields.{field_at, from_bytes}
use Rattle.records.specs.Fields.Laws.{bytes_drop, field_lt, low_two}
use Rattle.records.specs.Marks.Laws.{number_narrow}
use Rattle.records.proofs.pattern_at.Goals as goal

pub overflow_cast-x : goal.overflow_cast-x
unfolding from_bytes
overflow_cast-x c = let a = c.args in omega (arith, c.field-x.ensures, field_lt a.at 4 4 a.s.now (omega arith) (λ i. (c.type_inv.s i).fits))

pub returns-then-width-eq-PATTERN_BYTES : goal.returns-then-width-eq-PATTERN_BYTES
unfolding from_bytes
returns-then-width-eq-PATTERN_BYTES c = let a = c.args in c.field-x.ensures ∙ ap (λ (w : ℕ). field_at a.at w a.s.now) (sym c.if-width-eq-PATTERN_BYTES.true ∙ c.number_width-width.ensures)

pub returns-then-width-eq-NARROW_PATTERN_BYTES : goal.returns-then-width-eq-NARROW_PATTERN_BYTES
unfolding from_bytes
returns-then-width-eq-NARROW_PATTERN_BYTES c = let a = c.args in
    ap (λ (x : ℕ). x % 65536) c.field-x.ensures
    ∙ (sym (low_two (drop a.at a.s.now) (bytes_drop a.at a.s.now (λ i. (c.type_inv.s i).fits)))
    ∙ ap (λ (w : ℕ). field_at a.at w a.s.now) (sym c.if-width-eq-NARROW_PATTERN_BYTES.true ∙ c.number_width-width.ensures))

pub returns : goal.returns
unfolding from_bytes
returns c = let a = c.args in let width = c.number_width-width.ensures in
    sym (ap (λ (w : ℕ). field_at a.at w a.s.now) (number_narrow a.k (λ e. c.if-width-eq-PATTERN_BYTES.false (width ∙ e)) (λ e. c.if-width-eq-NARROW_PATTERN_BYTES.false (width ∙ e))))
