-- How long numbers, fields and lines can be.
use mathlib.Core.Path.{sym, subst}
use mathlib.Core.List.{List, [], ◌∷◌, ◌++◌}
use Prim.Native.Nat.{ℕ, zero, suc, ◌+◌, ◌*◌, ◌/◌, ◌%◌, ◌≤◌}
use native.Mathlib.Omega.{arith}
use lib.Dec.{ltb}
use lib.ListN.{length, length-append}
use Rattle.drive_sets.specs.Bools.Laws.{by_test, cond_true, cond_false}
use Rattle.records.specs.Marks.{ascii}
use Rattle.text.specs.declared.Base.{Base}
use Rattle.text.specs.declared.Base.TheVariants.{Decimal, Hexadecimal}
use Rattle.text.specs.Text.{digit, in_base, digits, joined, field, fields, named, line, lines, refusal_line}
use Rattle.drive_sets.specs.Limits.{max_text}

base_length : (base most x : ℕ) → length (in_base base most x) ≤ most
unfolding in_base
base_length base zero x = omega arith
base_length base (suc most) x =
    let last = digit (x % base) ∷ [] in
    let front = in_base base most (x / base) in
    let short : length last ≤ suc most = omega arith in
    let long : length (front ++ last) ≤ suc most = omega (arith, length-append front last, base_length base most (x / base)) in
    by_test (ltb x base) (λ e. subst (λ (l : List ℕ). length l ≤ suc most) (sym (cond_true _ _ e)) short)
    (λ e. subst (λ (l : List ℕ). length l ≤ suc most) (sym (cond_false _ _ e)) long)

pub field_length : (base : Base) (x : ℕ) → length (field base x) ≤ 21
unfolding field digits ascii
field_length Decimal x = omega (arith, base_length 10 20 x)
field_length Hexadecimal x = omega (arith, base_length 16 16 x)

pub joined_length : (text : ℕ → List ℕ) {most : ℕ} → ((x : ℕ) → length (text x) ≤ most) → (l : List ℕ) → length (joined text l) ≤ most * length l
unfolding joined
joined_length text each [] = omega arith
joined_length text each (x ∷ l) = omega (arith, length-append (text x) (joined text l), each x, joined_length text each l)

pub fields_length : (base : Base) (l : List ℕ) → length (fields base l) ≤ 21 * length l
unfolding fields
fields_length base l = joined_length (field base) (field_length base) l

pub named_length : (word : List ℕ) (base : Base) (x : ℕ) → length (named word base x) ≤ length word + 21
unfolding named
named_length word base x = omega (arith, length-append word (field base x), field_length base x)

pub line_length : (word : List ℕ) (base : Base) (x : ℕ) → length (line word base x) ≤ length word + 22
unfolding line ascii
line_length word base x = omega (arith, length-append (named word base x) (10 ∷ []), named_length word base x)

pub lines_length : (word : List ℕ) (base : Base) (l : List ℕ) → length (lines word base l) ≤ (length word + 22) * length l
unfolding lines
lines_length word base l = joined_length (line word base) (line_length word base) l

pub refusal_length : (k : ℕ) → length (refusal_line k) ≤ max_text
unfolding refusal_line ascii
refusal_length k = omega (arith, line_length (ascii "refused") Decimal k)
