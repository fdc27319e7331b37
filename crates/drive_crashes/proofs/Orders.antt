-- The derived order of drives and of rounds, as the tests of their numbers.
use mathlib.Core.Path.{◌≡◌, sym, ◌∙◌}
use mathlib.Core.Bool.{Bool}
use Prim.Native.Nat.{ℕ}
use native.Mathlib.Omega.{arith}
use lib.Dec.{eqb, leb, ltb}
use borrow.Author.Tests.{eqb-true, eqb-false, ltb-true, ltb-false, le-leb, lt-leb}
use Rattle.std.specs.Ordering.{nat_cmp, is_lt, is_le}
use Rattle.drive_sets.specs.Bools.Laws.{by_test}

is_lt_law : (a b : ℕ) → is_lt (nat_cmp a b) ≡ ltb a b
is_lt_law a b = by_test (ltb a b) (λ t. rw t) (λ t. by_test (eqb a b) (λ e. rw (t, e)) (λ e. rw (t, e)))

is_le_law : (a b : ℕ) → is_le (nat_cmp a b) ≡ leb a b
is_le_law a b =
    by_test (ltb a b)
    (λ t. rw t (sym (le-leb a b (omega (arith, ltb-true a b t)))))
    (λ t. by_test (eqb a b)
    (λ e. rw (t, e) (sym (le-leb a b (omega (arith, eqb-true a b e)))))
    (λ e. rw (t, e) (sym (lt-leb a b (omega (arith, ltb-false a b t, eqb-false a b e))))))

-- so is what a comparison gave
pub by_lt : (a b : ℕ) {r : Bool} → r ≡ is_lt (nat_cmp a b) → r ≡ ltb a b
by_lt a b e = e ∙ is_lt_law a b

pub by_le : (a b : ℕ) {r : Bool} → r ≡ is_le (nat_cmp a b) → r ≡ leb a b
by_le a b e = e ∙ is_le_law a b
