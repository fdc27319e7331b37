-- Membership in each set of drives, when sets are equal, are part of one another, and share a drive.
use Rattle.std.specs.Prelude.{◌≡◌, refl, Bool, true, false, not, ◌&&◌, ◌||◌, ℕ, zero, suc, ◌+◌, ◌-◌, ◌/◌, ◌%◌, ◌^◌, ◌≤◌, ◌<◌, min, max, eqb, ltb, leb}
use Rattle.std.proofs.Common.{sym, ap, ◌∙◌, subst, zero-le, suc-le-suc, lt_of_le_of_lt, sub-le, zero-lt-suc, pow-suc, arith, pow_pos, pow_mono, eqb-true, eq-eqb, ne_eqb, lt-ltb, le-leb, leb-true, leb-false}
use Rattle.std.specs.Bool.{beq}
use Rattle.std.proofs.Math.Bool.{or_assoc}
use Rattle.std.proofs.Math.Arith.{lt-one}
use Rattle.std.proofs.Math.Pow.{pow-lt, ones_lt}
use Rattle.std.specs.Int.Bits.{bit_and, differ, and_self, and_zero_l, or_zero_r, or_add_and}
use Rattle.std.proofs.lemmas.Nat.{and_le_l, and_le_r, and_comm, or_lt}
use Rattle.std.proofs.lemmas.Bool.{eqb-false, not-true, not-false}
use Rattle.drive_sets.specs.Bools.Laws.{clash, by_test, false_of, true_of, same_test, and_intro, and_left, and_right, or_left, cond_true}
use Rattle.drive_sets.specs.Masks.{has, single, full, union, common, minus, only_one, meets, subset}
use Rattle.drive_sets.specs.Masks.Bits.{bit, bit_lt, bit_zero, bit_suc, bit_none, bit_above, half_lt, bit_ext, bit_and_law, bit_or_law, bit_xor_law, bit_minus, bit_one, bit_ones, on_digits, digit_ext}

-- ---- membership

pub has_none : (d : ℕ) → has d 0 ≡ false
unfolding has
has_none zero = refl
has_none (suc i) = ap (λ (x : ℕ). eqb x 1) (bit_none i)

pub has_union : (d a b : ℕ) → has d (union a b) ≡ (has d a || has d b)
unfolding has union
has_union zero a b = refl
has_union (suc i) a b =
    ap (λ (x : ℕ). eqb x 1) (bit_or_law i a b) ∙ on_digits max ◌||◌ refl refl refl refl (bit i a) (bit i b) (bit_lt i a) (bit_lt i b)

pub has_common : (d a b : ℕ) → has d (common a b) ≡ (has d a && has d b)
unfolding has common
has_common zero a b = refl
has_common (suc i) a b =
    ap (λ (x : ℕ). eqb x 1) (bit_and_law i a b) ∙ on_digits min ◌&&◌ refl refl refl refl (bit i a) (bit i b) (bit_lt i a) (bit_lt i b)

pub has_minus : (d a b : ℕ) → has d (minus a b) ≡ (has d a && not (has d b))
unfolding has minus
has_minus zero a b = refl
has_minus (suc i) a b =
    ap (λ (x : ℕ). eqb x 1) (bit_minus i a b)
    ∙ on_digits (λ x y. x - min x y) (λ p q. p && not q) refl refl refl refl (bit i a) (bit i b) (bit_lt i a) (bit_lt i b)

pub has_only_one : (d a b : ℕ) → has d (only_one a b) ≡ not (beq (has d a) (has d b))
unfolding has only_one
has_only_one zero a b = refl
has_only_one (suc i) a b =
    ap (λ (x : ℕ). eqb x 1) (bit_xor_law i a b)
    ∙ on_digits differ (λ p q. not (beq p q)) refl refl refl refl (bit i a) (bit i b) (bit_lt i a) (bit_lt i b)

pub has_single : (d e : ℕ) → 1 ≤ e → e ≤ 64 → has d (single e) ≡ eqb d e
unfolding has single
has_single d zero p q = absurd (omega arith)
has_single zero (suc j) p q = sym (ne_eqb 0 (suc j) (λ z. omega arith))
has_single (suc i) (suc j) p q =
    ap (λ (x : ℕ). eqb (bit i x) 1) (cond_true (2 ^ j) 0 (lt-ltb j 64 q))
    ∙ (bit_one i j ∙ same_test (eqb i j) (eqb (suc i) (suc j)) (λ h. eq-eqb (suc i) (suc j) (ap suc (eqb-true i j h))) (λ h. eq-eqb i j (let e = eqb-true (suc i) (suc j) h in omega arith)))

pub has_full : (d n : ℕ) → n ≤ 64 → has d (full n) ≡ (leb 1 d && leb d n)
unfolding has full
has_full zero n h = refl
has_full (suc i) n h = bit_ones i (min n 64) ∙ (ap (ltb i) cut ∙ sym (ap (λ (b : Bool). b && leb (suc i) n) (le-leb 1 (suc i) (omega arith))))
  where
    cut : min n 64 ≡ n
    cut = omega arith

-- a drive of a set below 2 ^ n is one of 1 to n
pub has_bounds : (n d m : ℕ) → m < 2 ^ n → has d m ≡ true → (1 ≤ d) × (d ≤ n)
unfolding has
has_bounds n zero m h e = absurd (clash e refl)
has_bounds n (suc i) m h e =
    by_test (leb (suc i) n)
    (λ p. (omega arith, leb-true (suc i) n p))
    (λ p. absurd (clash e (ap (λ (x : ℕ). eqb x 1) (bit_above i n m h (let q = leb-false (suc i) n p in omega arith)))))

-- the same where a test said that d is a member
pub tested_bounds : (d m : ℕ) (b : Bool) → m < 2 ^ 64 → b ≡ has d m → not b ≡ false → (1 ≤ d) × (d ≤ 64)
tested_bounds d m b h e g = has_bounds 64 d m h (sym e ∙ not-false b g)

pub full_has : (d n : ℕ) → n ≤ 64 → 1 ≤ d → d ≤ n → has d (full n) ≡ true
full_has d n h p q = has_full d n h ∙ and_intro (le-leb 1 d p) (le-leb d n q)

-- ---- sizes of the masks as numbers

pub common_lt : (n a b : ℕ) → a < 2 ^ n → common a b < 2 ^ n
unfolding common
common_lt n a b h = lt_of_le_of_lt (and_le_l a b) h

pub common_lt_right : (n a b : ℕ) → b < 2 ^ n → common a b < 2 ^ n
unfolding common
common_lt_right n a b h = lt_of_le_of_lt (and_le_r a b) h

pub union_lt : (n a b : ℕ) → a < 2 ^ n → b < 2 ^ n → union a b < 2 ^ n
unfolding union
union_lt n a b p q = or_lt n a b p q

pub minus_lt : (n a b : ℕ) → a < 2 ^ n → minus a b < 2 ^ n
unfolding minus
minus_lt n a b h = lt_of_le_of_lt (sub-le a (bit_and a b)) h

pub single_lt : (n d : ℕ) → d ≤ n → single d < 2 ^ n
unfolding single
single_lt n zero h = pow_pos n
single_lt n (suc i) h =
    by_test (ltb i 64)
    (λ e. rw e (pow-lt {i = i} {j = n} h))
    (λ e. rw e (pow_pos n))

pub full_lt : (n : ℕ) → full n < 2 ^ n
unfolding full
full_lt n = omega (arith, ones_lt (min n 64), pow_mono {i = min n 64} {j = n} (omega arith))

pub full_word : (n : ℕ) → full n < 2 ^ 64
unfolding full
full_word n = omega (arith, ones_lt (min n 64), pow_mono {i = min n 64} {j = 64} (omega arith))

pub full_is : (n : ℕ) → n ≤ 64 → full n ≡ 2 ^ n - 1
unfolding full
full_is n h = ap (λ (k : ℕ). 2 ^ k - 1) cut
  where
    cut : min n 64 ≡ n
    cut = omega arith

-- ---- the same drives: the same set

pub has_ext : (n a b : ℕ) → a < 2 ^ n → b < 2 ^ n → ((d : ℕ) → 1 ≤ d → d ≤ n → has d a ≡ has d b) → a ≡ b
unfolding has
has_ext n a b ha hb f =
    bit_ext n a b ha hb (λ i p. digit_ext (bit i a) (bit i b) (bit_lt i a) (bit_lt i b) (f (suc i) (suc-le-suc zero-le) p))

-- a set that is not empty has a drive
some_bit : (n a : ℕ) → a < 2 ^ n → (a ≡ 0 → ⊥) → (i : ℕ) × (i < n) × (bit i a ≡ 1)
some_bit zero a h ne = absurd (ne (lt-one h))
some_bit (suc n) a h ne = go (λ ne'. some_bit n (a / 2) (half_lt n h) ne') (a % 2) refl
  where
    go : ((a / 2 ≡ 0 → ⊥) → (i : ℕ) × (i < n) × (bit i (a / 2) ≡ 1)) → (r : ℕ) → a % 2 ≡ r → (i : ℕ) × (i < suc n) × (bit i a ≡ 1)
    go rest zero e = let w = rest (λ z. ne (omega arith)) in (suc w.0, suc-le-suc w.1, bit_suc w.0 a ∙ w.2)
    go rest (suc r) e = (0, zero-lt-suc n, bit_zero a ∙ (omega arith))

pub has_some : (n a : ℕ) → a < 2 ^ n → (a ≡ 0 → ⊥) → (d : ℕ) × (has d a ≡ true)
unfolding has
has_some n a h ne = let w = some_bit n a h ne in (suc w.0, eq-eqb (bit w.0 a) 1 w.2)

-- a set with no drive is empty
pub none_has : (n a : ℕ) → a < 2 ^ n → ((d : ℕ) → has d a ≡ false) → a ≡ 0
none_has n a h f = has_ext n a 0 h (pow_pos n) (λ d p q. f d ∙ sym (has_none d))

-- ---- union

pub power_above : (n : ℕ) → n < 2 ^ n
power_above zero = pow_pos 0
power_above (suc n) = omega (arith, pow-suc 2 n, power_above n, pow_pos n)

pub union_assoc : (a b c : ℕ) → union (union a b) c ≡ union a (union b c)
union_assoc a b c =
    has_ext n (union (union a b) c) (union a (union b c)) (union_lt n (union a b) c (union_lt n a b a_lt b_lt) c_lt) (union_lt n a (union b c) a_lt (union_lt n b c b_lt c_lt))
    (λ d p q. has_union d (union a b) c
    ∙ (ap (λ (t : Bool). t || has d c) (has_union d a b)
    ∙ (or_assoc (has d a) (has d b) (has d c) ∙ sym (has_union d a (union b c) ∙ ap (λ (t : Bool). has d a || t) (has_union d b c)))))
  where
    n : ℕ
    n = a + b + c

    a_lt : a < 2 ^ n
    a_lt = omega (arith, power_above a, pow_mono {i = a} {j = n} (omega arith))

    b_lt : b < 2 ^ n
    b_lt = omega (arith, power_above b, pow_mono {i = b} {j = n} (omega arith))

    c_lt : c < 2 ^ n
    c_lt = omega (arith, power_above c, pow_mono {i = c} {j = n} (omega arith))

pub union_none : (a : ℕ) → union a 0 ≡ a
unfolding union
union_none a = or_zero_r a

-- ---- subset

pub subset_has : (d a b : ℕ) → subset a b ≡ true → has d a ≡ true → has d b ≡ true
unfolding subset common
subset_has d a b e h = and_right (has d a) (has d b) (sym (has_common d a b) ∙ (ap (has d) (eqb-true (bit_and a b) a e) ∙ h))

pub has_subset : (n a b : ℕ) → a < 2 ^ n → ((d : ℕ) → has d a ≡ true → has d b ≡ true) → subset a b ≡ true
unfolding subset common
has_subset n a b h f =
    eq-eqb (bit_and a b) a
    (has_ext n (bit_and a b) a (common_lt n a b h) h
    (λ d p q. has_common d a b ∙ same_test (has d a && has d b) (has d a) (and_left (has d a) (has d b)) (λ e. and_intro e (f d e))))

pub subset_refl : (a : ℕ) → subset a a ≡ true
unfolding subset
subset_refl a = eq-eqb (bit_and a a) a (and_self a)

pub none_subset : (a : ℕ) → subset 0 a ≡ true
unfolding subset
none_subset a = eq-eqb (bit_and 0 a) 0 (and_zero_l a)

pub subset_trans : (n a b c : ℕ) → a < 2 ^ n → subset a b ≡ true → subset b c ≡ true → subset a c ≡ true
subset_trans n a b c h p q = has_subset n a c h (λ d e. subset_has d b c q (subset_has d a b p e))

pub subset_antisym : (a b : ℕ) → subset a b ≡ true → subset b a ≡ true → a ≡ b
unfolding subset
subset_antisym a b p q = sym (eqb-true (bit_and a b) a p) ∙ (and_comm a b ∙ eqb-true (bit_and b a) b q)

pub subset_lt : (n a b : ℕ) → subset a b ≡ true → b < 2 ^ n → a < 2 ^ n
unfolding subset
subset_lt n a b e h = subst (λ (x : ℕ). x < 2 ^ n) (eqb-true (bit_and a b) a e) (lt_of_le_of_lt (and_le_r a b) h)

pub subset_union : (n a b : ℕ) → a < 2 ^ n → subset a (union a b) ≡ true
subset_union n a b h = has_subset n a (union a b) h (λ d e. has_union d a b ∙ or_left (has d b) e)

pub subset_minus : (n a b : ℕ) → a < 2 ^ n → subset (minus a b) a ≡ true
subset_minus n a b h = has_subset n (minus a b) a (minus_lt n a b h) (λ d e. and_left (has d a) (not (has d b)) (sym (has_minus d a b) ∙ e))

-- a part adds nothing
pub union_subset : (a b : ℕ) → subset a b ≡ true → union a b ≡ b
unfolding subset union
union_subset a b e = omega (arith, or_add_and a b, eqb-true (bit_and a b) a e)

-- where a is no part of b, a drive of a is not in b
pub subset_not : (n a b : ℕ) → a < 2 ^ n → subset a b ≡ false → (d : ℕ) × (has d a ≡ true) × (has d b ≡ false)
subset_not n a b h e =
    let w = has_some n (minus a b) (minus_lt n a b h) (λ z. clash (has_subset n a b h (λ d p. true_of (has d b) (λ q.
    clash (has_minus d a b ∙ and_intro p (ap not q)) (ap (has d) z ∙ has_none d)))) e) in
    let both = sym (has_minus w.0 a b) ∙ w.1 in
    (w.0, and_left (has w.0 a) (not (has w.0 b)) both, not-true (has w.0 b) (and_right (has w.0 a) (not (has w.0 b)) both))

-- the drives 1 to n: every set of them, and no other, is part of the frame
pub subset_full : (n m : ℕ) → n ≤ 64 → m < 2 ^ n → subset m (full n) ≡ true
subset_full n m h lt = has_subset n m (full n) lt (λ d e. let w = has_bounds n d m lt e in full_has d n h w.0 w.1)

pub full_subset : (n m : ℕ) → subset m (full n) ≡ true → m < 2 ^ n
full_subset n m e = subset_lt n m (full n) e (full_lt n)

-- ---- sets that share a drive

pub has_meets : (d a b : ℕ) → has d a ≡ true → has d b ≡ true → meets a b ≡ true
unfolding meets common
has_meets d a b p q =
    ap not (false_of (eqb (bit_and a b) 0) (λ z. clash (has_common d a b ∙ and_intro p q) (ap (has d) (eqb-true (bit_and a b) 0 z) ∙ has_none d)))

pub meets_has : (n a b : ℕ) → a < 2 ^ n → meets a b ≡ true → (d : ℕ) × (has d a ≡ true) × (has d b ≡ true)
unfolding meets common
meets_has n a b h e =
    let w = has_some n (common a b) (common_lt n a b h) (eqb-false (bit_and a b) 0 (not-true (eqb (bit_and a b) 0) e)) in
    let both = sym (has_common w.0 a b) ∙ w.1 in
    (w.0, and_left (has w.0 a) (has w.0 b) both, and_right (has w.0 a) (has w.0 b) both)

pub meets_not : (d a b : ℕ) → meets a b ≡ false → has d a ≡ true → has d b ≡ false
meets_not d a b e p = false_of (has d b) (λ q. clash (has_meets d a b p q) e)

pub not_meets : (n a b : ℕ) → a < 2 ^ n → ((d : ℕ) → has d a ≡ true → has d b ≡ false) → meets a b ≡ false
not_meets n a b h f = false_of (meets a b) (λ e. let w = meets_has n a b h e in clash w.2 (f w.0 w.1))

pub meets_sym : (a b : ℕ) → meets a b ≡ meets b a
unfolding meets
meets_sym a b = ap (λ (x : ℕ). not (eqb x 0)) (and_comm a b)

-- what a part of m meets, m meets
pub meets_subset : (n s a b : ℕ) → a < 2 ^ n → subset a b ≡ true → meets s a ≡ true → meets s b ≡ true
meets_subset n s a b h e p = let w = meets_has n a s h (meets_sym a s ∙ p) in has_meets w.0 s b w.2 (subset_has w.0 a b e w.1)
