-- The code's shifts on 64-bit words give the sets that the definitions name.
use mathlib.Core.Path.{◌≡◌, refl, sym, ap, ◌∙◌}
use mathlib.Core.Bool.{false}
use Prim.Native.Nat.{ℕ, zero, suc, ◌+◌, ◌-◌, ◌*◌, ◌/◌, ◌%◌, ◌^◌, ◌≤◌, ◌<◌, min}
use native.Mathlib.Nat.{one-mul, mod-eq_of_lt}
use native.Mathlib.Omega.{arith}
use lib.Arith.{digits_div}
use lib.Pow.{pow-lt, ones_split, ones_lt}
use lib.Dec.{eqb}
use borrow.Author.Tests.{lt-ltb, le-ltb}
use Rattle.drive_sets.specs.Bools.Laws.{false_of, cond_true, cond_false}
use Rattle.drive_sets.specs.Masks.{has, single, full}
use Rattle.drive_sets.specs.Masks.Laws.{has_bounds, full_is}

-- all drives: no shift by 64
pub full_above : (n : ℕ) → 64 < n → 0xffff_ffff_ffff_ffff ≡ full n
unfolding full
full_above n h = ap (λ (k : ℕ). 2 ^ k - 1) cut
  where
    cut : 64 ≡ min n 64
    cut = omega arith

pub full_shift : (n : ℕ) → n ≤ 64 → 0xffff_ffff_ffff_ffff / 2 ^ (64 - n) ≡ full n
full_shift n h =
    ap (λ (x : ℕ). (2 ^ x - 1) / 2 ^ (64 - n)) parts
    ∙ (ap (λ (x : ℕ). x / 2 ^ (64 - n)) (ones_split n (64 - n)) ∙ (digits_div (2 ^ n - 1) (ones_lt (64 - n)) ∙ sym (full_is n h)))
  where
    parts : 64 ≡ n + (64 - n)
    parts = omega arith

-- one drive
pub single_above : (d : ℕ) → 64 < d → 0 ≡ single d
unfolding single
single_above zero h = refl
single_above (suc i) h = sym (cond_false (2 ^ i) 0 (le-ltb i 64 (omega arith)))

pub single_shift : (d : ℕ) → (d ≡ 0 → ⊥) → d ≤ 64 → (1 * 2 ^ (d - 1)) % 2 ^ 64 ≡ single d
unfolding single
single_shift zero ne h = absurd (ne refl)
single_shift (suc i) ne h =
    ap (λ (x : ℕ). (1 * 2 ^ x) % 2 ^ 64) less
    ∙ (ap (λ (x : ℕ). x % 2 ^ 64) (one-mul (2 ^ i)) ∙ (mod-eq_of_lt (pow-lt {i = i} {j = 64} h) ∙ sym (cond_true (2 ^ i) 0 (lt-ltb i 64 h))))
  where
    less : suc i - 1 ≡ i
    less = omega arith

-- membership
pub has_above : (d m : ℕ) → m < 2 ^ 64 → 64 < d → false ≡ has d m
has_above d m h lt = sym (false_of (has d m) (λ e. let w = has_bounds 64 d m h e in omega arith))

pub has_shift : (d m : ℕ) → (d ≡ 0 → ⊥) → eqb (m / 2 ^ (d - 1) % 2) 1 ≡ has d m
unfolding has
has_shift zero m ne = absurd (ne refl)
has_shift (suc i) m ne = ap (λ (x : ℕ). eqb (m / 2 ^ x % 2) 1) less
  where
    less : suc i - 1 ≡ i
    less = omega arith
