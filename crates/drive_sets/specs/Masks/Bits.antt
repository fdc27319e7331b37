-- The binary digits of a mask, and of each operation on masks: what the laws of membership rest on.
use Rattle.std.specs.Prelude.{◌≡◌, refl, Bool, true, false, ℕ, zero, suc, ◌-◌, ◌/◌, ◌%◌, ◌^◌, ◌≤◌, ◌<◌, min, max, eqb, ltb}
use Rattle.std.proofs.Common.{sym, ap, ap₂, ◌∙◌, subst, suc-le-suc, mod-lt, pow-suc, mul_comm, div-one, zero-lt-suc, arith, add-one, eqb-true, shr_lt, pow_mono}
use Rattle.std.proofs.Math.Nat.{div-div-eq-div-mul, zero-div, div-eq_of_lt}
use Rattle.std.proofs.lemmas.Bool.{eqb-false}
use Rattle.drive_sets.specs.Bools.Laws.{by_test}
use Rattle.std.proofs.Math.Arith.{lt-one, digits_mod}
use Rattle.std.specs.Int.Bits.{bit_and, bit_or, bit_xor, differ, and_step, or_step, xor_step}
use Rattle.std.proofs.lemmas.Nat.{and_le_l, and_shr, or_shr, xor_shr}
use Rattle.std.proofs.Math.Dec.{eqb-zero-suc, eqb-suc-zero, eqb-suc-suc, leb-zero, leb-suc-zero, leb-suc-suc}

-- the digit i of m, lowest first
abbrev pub bit : ℕ → ℕ → ℕ
bit i m = m / 2 ^ i % 2

pub bit_lt : (i m : ℕ) → bit i m < 2
bit_lt i m = mod-lt (m / 2 ^ i) (zero-lt-suc 1)

pub bit_zero : (m : ℕ) → bit 0 m ≡ m % 2
bit_zero m = ap (λ (x : ℕ). x % 2) (div-one m)

pub bit_suc : (i m : ℕ) → bit (suc i) m ≡ bit i (m / 2)
bit_suc i m = ap (λ (x : ℕ). m / x % 2) (pow-suc 2 i ∙ mul_comm (2 ^ i) 2) ∙ ap (λ (x : ℕ). x % 2) (sym (div-div-eq-div-mul m 2 (2 ^ i)))

pub bit_none : (i : ℕ) → bit i 0 ≡ 0
bit_none i = ap (λ (x : ℕ). x % 2) (zero-div (2 ^ i))

-- no digit from i on
pub bit_above : (i k m : ℕ) → m < 2 ^ k → k ≤ i → bit i m ≡ 0
bit_above i k m h le = ap (λ (x : ℕ). x % 2) (div-eq_of_lt (omega (arith, pow_mono le)))

pub half_lt : {a : ℕ} (k : ℕ) → a < 2 ^ suc k → a / 2 < 2 ^ k
half_lt {a} k h = shr_lt k 1 (subst (λ (x : ℕ). a < 2 ^ x) (sym (add-one k)) h)

-- numbers of k digits with the same digits are equal
pub bit_ext : (k a b : ℕ) → a < 2 ^ k → b < 2 ^ k → ((i : ℕ) → i < k → bit i a ≡ bit i b) → a ≡ b
bit_ext zero a b ha hb h = lt-one ha ∙ sym (lt-one hb)
bit_ext (suc k) a b ha hb h =
    let low : a % 2 ≡ b % 2 = sym (bit_zero a) ∙ h 0 (zero-lt-suc k) ∙ bit_zero b in
    let high : a / 2 ≡ b / 2 = bit_ext k (a / 2) (b / 2) (half_lt k ha) (half_lt k hb) (λ i p. sym (bit_suc i a) ∙ h (suc i) (suc-le-suc p) ∙ bit_suc i b) in
    omega arith

-- ---- and, or, exclusive or, difference: the last digit, the rest, then every digit

pub and_odd : (a b : ℕ) → bit_and a b % 2 ≡ min (a % 2) (b % 2)
and_odd a b =
    ap (λ (x : ℕ). x % 2) (and_step a b)
    ∙ digits_mod (bit_and (a / 2) (b / 2)) (omega (arith, mod-lt a (zero-lt-suc 1), mod-lt b (zero-lt-suc 1)))

pub or_odd : (a b : ℕ) → bit_or a b % 2 ≡ max (a % 2) (b % 2)
or_odd a b =
    ap (λ (x : ℕ). x % 2) (or_step a b)
    ∙ digits_mod (bit_or (a / 2) (b / 2)) (omega (arith, mod-lt a (zero-lt-suc 1), mod-lt b (zero-lt-suc 1)))

xor_odd : (a b : ℕ) → bit_xor a b % 2 ≡ differ (a % 2) (b % 2)
xor_odd a b =
    ap (λ (x : ℕ). x % 2) (xor_step a b)
    ∙ digits_mod (bit_xor (a / 2) (b / 2)) (differ_lt (a % 2) (b % 2) (mod-lt a (zero-lt-suc 1)) (mod-lt b (zero-lt-suc 1)))
  where
    differ_lt : (x y : ℕ) → x < 2 → y < 2 → differ x y < 2
    differ_lt zero y hx hy = hy
    differ_lt (suc x) zero hx hy = hx
    differ_lt (suc x) (suc y) hx hy = differ_lt x y (omega arith) (omega arith)

pub and_half : (a b : ℕ) → bit_and a b / 2 ≡ bit_and (a / 2) (b / 2)
and_half a b = omega (arith, and_step a b)

pub bit_and_law : (i a b : ℕ) → bit i (bit_and a b) ≡ min (bit i a) (bit i b)
bit_and_law i a b = ap (λ (x : ℕ). x % 2) (and_shr a b i) ∙ and_odd (a / 2 ^ i) (b / 2 ^ i)

pub bit_or_law : (i a b : ℕ) → bit i (bit_or a b) ≡ max (bit i a) (bit i b)
bit_or_law i a b = ap (λ (x : ℕ). x % 2) (or_shr a b i) ∙ or_odd (a / 2 ^ i) (b / 2 ^ i)

pub bit_xor_law : (i a b : ℕ) → bit i (bit_xor a b) ≡ differ (bit i a) (bit i b)
bit_xor_law i a b = ap (λ (x : ℕ). x % 2) (xor_shr a b i) ∙ xor_odd (a / 2 ^ i) (b / 2 ^ i)

pub minus_half : (a b : ℕ) → (a - bit_and a b) / 2 ≡ a / 2 - bit_and (a / 2) (b / 2)
minus_half a b = omega (arith, and_step a b, and_le_l (a / 2) (b / 2))

pub minus_odd : (a b : ℕ) → (a - bit_and a b) % 2 ≡ a % 2 - min (a % 2) (b % 2)
minus_odd a b = omega (arith, and_step a b, and_le_l (a / 2) (b / 2))

pub bit_minus : (i a b : ℕ) → bit i (a - bit_and a b) ≡ bit i a - min (bit i a) (bit i b)
bit_minus zero a b =
    bit_zero (a - bit_and a b) ∙ (minus_odd a b ∙ sym (ap₂ (λ (x y : ℕ). x - min x y) (bit_zero a) (bit_zero b)))
bit_minus (suc i) a b =
    bit_suc i (a - bit_and a b)
    ∙ (ap (bit i) (minus_half a b)
    ∙ (bit_minus i (a / 2) (b / 2) ∙ sym (ap₂ (λ (x y : ℕ). x - min x y) (bit_suc i a) (bit_suc i b))))

-- ---- one digit, and the k lowest digits

pub bit_one : (i j : ℕ) → eqb (bit i (2 ^ j)) 1 ≡ eqb i j
bit_one zero zero = refl
bit_one zero (suc j) = ap (λ (x : ℕ). eqb x 1) (bit_zero (2 ^ suc j) ∙ even) ∙ sym (eqb-zero-suc j)
  where
    even : 2 ^ suc j % 2 ≡ 0
    even = rw pow-suc (omega arith)
bit_one (suc i) zero = ap (λ (x : ℕ). eqb x 1) (bit_suc i 1 ∙ bit_none i) ∙ sym (eqb-suc-zero i)
bit_one (suc i) (suc j) =
    ap (λ (x : ℕ). eqb x 1) (bit_suc i (2 ^ suc j) ∙ ap (bit i) half) ∙ bit_one i j ∙ sym (eqb-suc-suc i j)
  where
    half : 2 ^ suc j / 2 ≡ 2 ^ j
    half = rw pow-suc (omega arith)

pub bit_ones : (i k : ℕ) → eqb (bit i (2 ^ k - 1)) 1 ≡ ltb i k
bit_ones i zero = ap (λ (x : ℕ). eqb x 1) (bit_none i) ∙ sym (leb-suc-zero i)
bit_ones zero (suc k) =
    ap (λ (x : ℕ). eqb x 1) (bit_zero (2 ^ suc k - 1) ∙ odd) ∙ sym (leb-suc-suc 0 k ∙ leb-zero k)
  where
    odd : (2 ^ suc k - 1) % 2 ≡ 1
    odd = rw pow-suc (omega (arith, pow_mono {i = 0} {j = k} (omega arith)))
bit_ones (suc i) (suc k) =
    ap (λ (x : ℕ). eqb x 1) (bit_suc i (2 ^ suc k - 1) ∙ ap (bit i) half) ∙ bit_ones i k ∙ sym (leb-suc-suc (suc i) k)
  where
    half : (2 ^ suc k - 1) / 2 ≡ 2 ^ k - 1
    half = rw pow-suc (omega arith)

-- ---- a digit as a test

-- an operation on digits that agrees with one on tests at 0 and 1
pub on_digits : (f : ℕ → ℕ → ℕ) (g : Bool → Bool → Bool)
    → eqb (f 0 0) 1 ≡ g false false → eqb (f 0 1) 1 ≡ g false true → eqb (f 1 0) 1 ≡ g true false → eqb (f 1 1) 1 ≡ g true true
    → (x y : ℕ) → x < 2 → y < 2 → eqb (f x y) 1 ≡ g (eqb x 1) (eqb y 1)
on_digits f g p q r s zero zero hx hy = p
on_digits f g p q r s zero (suc zero) hx hy = q
on_digits f g p q r s (suc zero) zero hx hy = r
on_digits f g p q r s (suc zero) (suc zero) hx hy = s
on_digits f g p q r s zero (suc (suc y)) hx hy = absurd (omega arith)
on_digits f g p q r s (suc zero) (suc (suc y)) hx hy = absurd (omega arith)
on_digits f g p q r s (suc (suc x)) y hx hy = absurd (omega arith)

pub digit_ext : (x y : ℕ) → x < 2 → y < 2 → eqb x 1 ≡ eqb y 1 → x ≡ y
digit_ext x y hx hy e =
    by_test (eqb x 1)
    (λ h. eqb-true x 1 h ∙ sym (eqb-true y 1 (sym e ∙ h)))
    (λ h. let p = eqb-false x 1 h in let q = eqb-false y 1 (sym e ∙ h) in omega arith)
