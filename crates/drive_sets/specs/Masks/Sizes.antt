-- How many drives a set has, its lowest drive, and its drives as a rising list and back.
use Rattle.std.specs.Prelude.{◌≡◌, refl, Bool, true, false, not, ◌&&◌, ◌||◌, List, [], ◌∷◌, ℕ, zero, suc, ◌+◌, ◌-◌, ◌*◌, ◌/◌, ◌%◌, ◌^◌, ◌≤◌, ◌<◌, eqb, ltb, length}
use Rattle.std.proofs.Common.{sym, ap, ap₂, ◌∙◌, subst, zero-le, suc-le-suc, mod-lt, zero-lt-suc, div-one, pow-suc, arith, pow_pos, pow_mono, eqb-true, eq-eqb, lt-ltb, ltb-true}
use Rattle.std.proofs.Math.Bool.{and-true}
use Rattle.std.proofs.Math.Nat.{div-div-eq-div-mul}
use Rattle.std.proofs.Math.Arith.{lt-one}
use Rattle.std.proofs.Math.Pow.{pow-lt}
use Rattle.std.specs.Int.Bits.{bit_and}
use Rattle.std.proofs.lemmas.Nat.{and_comm, and_le_l, ones_cat}
use Rattle.std.specs.Int.Count.{ones, ones_in, ones_step, ones-ones, count_trailing_zeros, under}
use Rattle.std.proofs.lemmas.Bool.{eqb-false, not-true}
use Rattle.drive_sets.specs.Bools.Laws.{clash, by_test, same_test, and_intro, and_left, and_right, cond_true}
use Rattle.drive_sets.specs.Lists.{range, filter, any, elem, ordered, distinct}
use Rattle.drive_sets.specs.Lists.Laws.{elem_head, elem_tail, all_intro, filter_true, filter_false, elem_filter, range_elem, ordered_filter, ordered_range, ordered_unique}
use Rattle.drive_sets.specs.Lists.Distinct.{ordered_distinct}
use Rattle.drive_sets.specs.Masks.{has, single, full, common, minus, subset, size, lowest, drives, of_drives}
use Rattle.drive_sets.specs.Masks.Bits.{bit, bit_lt, bit_zero, bit_suc, half_lt, and_odd, and_half, minus_half, minus_odd}
use Rattle.drive_sets.specs.Masks.Laws.{has_none, has_union, has_minus, has_single, has_bounds, has_ext, union_lt, minus_lt, single_lt, full_lt, full_is, has_subset, subset_refl, subset_trans, subset_lt, subset_minus}

-- ---- the count of ones

minus_count : (k a b : ℕ) → ones_in k (a - bit_and a b) + ones_in k (bit_and a b) ≡ ones_in k a
unfolding ones_in
minus_count zero a b = refl
minus_count (suc k) a b = let rest = minus_count k (a / 2) (b / 2) in rw (minus_half a b, and_half a b, minus_odd a b, and_odd a b) (omega arith)

count_le : (k m : ℕ) → ones_in k m ≤ k
unfolding ones_in
count_le zero m = omega arith
count_le (suc k) m = omega (arith, count_le k (m / 2), mod-lt m (zero-lt-suc 1))

count_none : (k m : ℕ) → m < 2 ^ k → ones_in k m ≡ 0 → m ≡ 0
unfolding ones_in
count_none zero m h e = lt-one h
count_none (suc k) m h e = let rest = count_none k (m / 2) (half_lt k h) (omega arith) in omega arith

count_ones : (k m : ℕ) → m < 2 ^ k → ones m ≡ ones_in k m
unfolding ones_in ones
count_ones zero m h = ap ones (lt-one h)
count_ones (suc k) m h = ones_step m ∙ ap (λ (x : ℕ). m % 2 + x) (count_ones k (m / 2) (half_lt k h))

one_and_none : ones 1 + ones 0 ≡ 1
unfolding ones ones_in
one_and_none = refl

-- ---- sizes

-- the machine's count of ones is the size
pub ones_size : (m : ℕ) → m < 2 ^ 64 → ones m ≡ size m
unfolding size
ones_size m h = count_ones 64 m h

pub size_none : size 0 ≡ 0
unfolding size ones_in
size_none = refl

pub size_le : (m : ℕ) → size m ≤ 64
unfolding size
size_le m = count_le 64 m

pub none_size : (m : ℕ) → m < 2 ^ 64 → size m ≡ 0 → m ≡ 0
unfolding size
none_size m h e = count_none 64 m h e

pub size_minus : (a b : ℕ) → size (minus a b) + size (common a b) ≡ size a
unfolding size minus common
size_minus a b = minus_count 64 a b

pub size_single : (d : ℕ) → 1 ≤ d → d ≤ 64 → size (single d) ≡ 1
unfolding single
size_single zero p q = absurd (omega arith)
size_single (suc i) p q =
    ap size (cond_true (2 ^ i) 0 (lt-ltb i 64 q)) ∙ (sym (ones_size (2 ^ i) (pow-lt {i = i} {j = 64} q)) ∙ (ap ones power ∙ one i))
  where
    power : 2 ^ i ≡ 1 * 2 ^ i + 0
    power = omega arith

    one : (i : ℕ) → ones (1 * 2 ^ i + 0) ≡ 1
    one i = ones_cat i 1 0 (pow_pos i) ∙ one_and_none

pub size_full : (n : ℕ) → n ≤ 64 → size (full n) ≡ n
size_full n h = sym (ones_size (full n) (omega (arith, full_lt n, pow_mono h))) ∙ (ap ones (full_is n h) ∙ ones-ones n)

pub single_subset : (d m : ℕ) → 1 ≤ d → d ≤ 64 → has d m ≡ true → subset (single d) m ≡ true
single_subset d m p q e =
    has_subset 64 (single d) m (single_lt 64 d q) (λ x h. ap (λ (y : ℕ). has y m) (eqb-true x d (sym (has_single x d p q) ∙ h)) ∙ e)

pub common_subset : (a b : ℕ) → subset a b ≡ true → common b a ≡ a
unfolding subset common
common_subset a b e = and_comm b a ∙ eqb-true (bit_and a b) a e

pub size_remove : (d m : ℕ) → 1 ≤ d → d ≤ 64 → has d m ≡ true → suc (size (minus m (single d))) ≡ size m
size_remove d m p q e =
    omega (arith, size_minus m (single d), ap size (common_subset (single d) m (single_subset d m p q e)), size_single d p q)

-- parts
pub size_subset : (a b : ℕ) → subset a b ≡ true → size a ≤ size b
size_subset a b e = omega (arith, size_minus b a, ap size (common_subset a b e))

pub subset_size : (a b : ℕ) → b < 2 ^ 64 → subset a b ≡ true → size b ≤ size a → a ≡ b
unfolding minus common
subset_size a b h e le = sym (common_subset a b e) ∙ whole
  where
    empty : minus b a ≡ 0
    empty = none_size (minus b a) (minus_lt 64 b a h) (omega (arith, size_minus b a, ap size (common_subset a b e)))

    whole : bit_and b a ≡ b
    whole = omega (arith, empty, and_le_l b a)

-- ---- the lowest drive

trailing_bit : (k m : ℕ) → m < 2 ^ k → (m ≡ 0 → ⊥) → bit (count_trailing_zeros k m) m ≡ 1
unfolding count_trailing_zeros
trailing_bit zero m h ne = absurd (ne (lt-one h))
trailing_bit (suc k) m h ne = go (λ ne'. trailing_bit k (m / 2) (half_lt k h) ne') (m % 2) refl
  where
    go : ((m / 2 ≡ 0 → ⊥) → bit (count_trailing_zeros k (m / 2)) (m / 2) ≡ 1) → (r : ℕ) → m % 2 ≡ r → bit (under r (count_trailing_zeros k (m / 2))) m ≡ 1
    go rest zero e = bit_suc (count_trailing_zeros k (m / 2)) m ∙ rest (λ z. ne (omega arith))
    go rest (suc r) e = bit_zero m ∙ (omega arith)

trailing_least : (k i m : ℕ) → i < k → bit i m ≡ 1 → count_trailing_zeros k m ≤ i
unfolding count_trailing_zeros
trailing_least zero i m h e = absurd (omega arith)
trailing_least (suc k) zero m h e = go (m % 2) refl
  where
    go : (r : ℕ) → m % 2 ≡ r → under r (count_trailing_zeros k (m / 2)) ≤ 0
    go zero q = absurd (omega (arith, sym (bit_zero m) ∙ e))
    go (suc r) q = zero-le
trailing_least (suc k) (suc i) m h e = go (m % 2) (trailing_least k i (m / 2) (omega arith) (sym (bit_suc i m) ∙ e))
  where
    go : (r : ℕ) → count_trailing_zeros k (m / 2) ≤ i → under r (count_trailing_zeros k (m / 2)) ≤ suc i
    go zero le = suc-le-suc le
    go (suc r) le = zero-le

-- of a number of k digits: the digit above the zeros is a drive's, and the lowest
pub trailing_has : (k m : ℕ) → m < 2 ^ k → (m ≡ 0 → ⊥) → has (suc (count_trailing_zeros k m)) m ≡ true
unfolding has
trailing_has k m h ne = eq-eqb (bit (count_trailing_zeros k m) m) 1 (trailing_bit k m h ne)

pub trailing_lowest : (k m : ℕ) → m < 2 ^ k → (d : ℕ) → has d m ≡ true → suc (count_trailing_zeros k m) ≤ d
unfolding has
trailing_lowest k m h zero e = absurd (clash e refl)
trailing_lowest k m h (suc i) e = suc-le-suc (trailing_least k i m (has_bounds k (suc i) m h e).1 (eqb-true (bit i m) 1 e))

pub lowest_has : (m : ℕ) → m < 2 ^ 64 → (m ≡ 0 → ⊥) → has (lowest m) m ≡ true
unfolding lowest
lowest_has m h ne = trailing_has 64 m h ne

pub lowest_least : (d m : ℕ) → m < 2 ^ 64 → has d m ≡ true → lowest m ≤ d
unfolding lowest
lowest_least d m h e = trailing_lowest 64 m h d e

-- where no drive of the set is below d, neither is the lowest; that of the empty set is none
pub lowest_from : (m d : ℕ) → m < 2 ^ 64 → d ≤ 64 → ((e : ℕ) → has e m ≡ true → d ≤ e) → d ≤ lowest m
unfolding count_trailing_zeros lowest
lowest_from m d word high from =
    by_test (eqb m 0) (λ t. subst (λ (x : ℕ). d ≤ lowest x) (sym (eqb-true m 0 t)) (omega arith)) (λ t. from (lowest m) (lowest_has m word (eqb-false m 0 t)))

-- ---- the drives as a list

ltb_asym : (x y : ℕ) → ltb x y ≡ true → ltb y x ≡ true → ⊥
ltb_asym x y p q = omega (arith, ltb-true x y p, ltb-true y x q)

pub elem_drives : (d m : ℕ) → m < 2 ^ 64 → elem d (drives m) ≡ has d m
unfolding drives
elem_drives d m h =
    elem_filter (λ x. has x m) d (range 1 64)
    ∙ same_test (elem d (range 1 64) && has d m) (has d m) (and_right (elem d (range 1 64)) (has d m))
    (λ e. let w = has_bounds 64 d m h e in and_intro (range_elem d 1 64 w.0 (omega arith)) e)

pub drives_rising : (m : ℕ) → ordered ltb (drives m) ≡ true
unfolding drives
drives_rising m = ordered_filter ltb (λ d. has d m) (range 1 64) (ordered_range 1 64)

pub drives_distinct : (m : ℕ) → distinct (drives m) ≡ true
drives_distinct m = ordered_distinct ltb (λ x h. ltb_asym x x h h) (drives m) (drives_rising m)

-- rising lists with the same elements are equal
pub rising_unique : (l m : List ℕ) → ordered ltb l ≡ true → ordered ltb m ≡ true → ((x : ℕ) → elem x l ≡ elem x m) → l ≡ m
rising_unique = ordered_unique ltb ltb_asym

halved : (m j : ℕ) → m / 2 ^ suc j ≡ m / 2 ^ j / 2
halved m j = ap (λ (x : ℕ). m / x) (pow-suc 2 j) ∙ sym (div-div-eq-div-mul m (2 ^ j) 2)

filter_count : (m k j : ℕ) → length (filter (λ d. has d m) (range (suc j) k)) ≡ ones_in k (m / 2 ^ j)
unfolding filter range ones_in has
filter_count m zero j = refl
filter_count m (suc k) j =
    let rest = filter_count m k (suc j) ∙ ap (ones_in k) (halved m j) in
    by_test (has (suc j) m)
    (λ e. ap length (filter_true (λ d. has d m) (suc j) (range (suc (suc j)) k) e) ∙ omega (arith, eqb-true (bit j m) 1 e))
    (λ e. ap length (filter_false (λ d. has d m) (suc j) (range (suc (suc j)) k) e) ∙ omega (arith, eqb-false (bit j m) 1 e, bit_lt j m))

pub length_drives : (m : ℕ) → length (drives m) ≡ size m
unfolding drives size
length_drives m = filter_count m 64 0 ∙ ap (ones_in 64) (div-one m)

pub of_drives_lt : (n : ℕ) (l : List ℕ) → ((d : ℕ) → elem d l ≡ true → d ≤ n) → of_drives l < 2 ^ n
unfolding of_drives
of_drives_lt n [] f = pow_pos n
of_drives_lt n (d ∷ l) f = union_lt n (single d) (of_drives l) (single_lt n d (f d (elem_head d l))) (of_drives_lt n l (λ x h. f x (elem_tail x d l h)))

pub has_of_drives : (x : ℕ) (l : List ℕ) → ((d : ℕ) → elem d l ≡ true → (1 ≤ d) × (d ≤ 64)) → has x (of_drives l) ≡ elem x l
unfolding of_drives elem any
has_of_drives x [] f = has_none x
has_of_drives x (d ∷ l) f =
    has_union x (single d) (of_drives l)
    ∙ ap₂ ◌||◌ (has_single x d (f d (elem_head d l)).0 (f d (elem_head d l)).1) (has_of_drives x l (λ y h. f y (elem_tail y d l h)))

drives_bounds : (d m : ℕ) → m < 2 ^ 64 → elem d (drives m) ≡ true → (1 ≤ d) × (d ≤ 64)
drives_bounds d m h e = has_bounds 64 d m h (sym (elem_drives d m h) ∙ e)

pub of_drives_drives : (m : ℕ) → m < 2 ^ 64 → of_drives (drives m) ≡ m
of_drives_drives m h =
    has_ext 64 (of_drives (drives m)) m (of_drives_lt 64 (drives m) (λ d e. (drives_bounds d m h e).1)) h
    (λ d p q. has_of_drives d (drives m) (λ x e. drives_bounds x m h e) ∙ elem_drives d m h)

-- a walk takes the lowest drive and goes on with the others
pub drives_lowest : (m : ℕ) → m < 2 ^ 64 → (m ≡ 0 → ⊥) → drives m ≡ lowest m ∷ drives (minus m (single (lowest m)))
unfolding ordered elem any
drives_lowest m h ne =
    rising_unique (drives m) (low ∷ drives others) (drives_rising m)
    (and_intro (all_intro (ltb low) (drives others) above) (drives_rising others)) same
  where
    low : ℕ
    low = lowest m

    others : ℕ
    others = minus m (single low)

    is_in : has low m ≡ true
    is_in = lowest_has m h ne

    has_others : (x : ℕ) → has x others ≡ (has x m && not (eqb x low))
    has_others x =
        has_minus x m (single low)
        ∙ ap (λ (b : Bool). has x m && not b) (let w = has_bounds 64 low m h is_in in has_single x low w.0 w.1)

    above : (x : ℕ) → elem x (drives others) ≡ true → ltb low x ≡ true
    above x e =
        let both = sym (has_others x) ∙ (sym (elem_drives x others (minus_lt 64 m (single low) h)) ∙ e) in
        let le = lowest_least x m h (and_left (has x m) (not (eqb x low)) both) in
        let other = eqb-false x low (not-true (eqb x low) (and_right (has x m) (not (eqb x low)) both)) in
        lt-ltb low x (omega arith)

    joined : (a b : Bool) → (a ≡ true → b ≡ true) → b ≡ (a || (b && not a))
    joined true b f = f refl
    joined false b f = sym (and-true b)

    same : (x : ℕ) → elem x (drives m) ≡ elem x (low ∷ drives others)
    same x =
        elem_drives x m h
        ∙ (joined (eqb x low) (has x m) (λ e. ap (λ (y : ℕ). has y m) (eqb-true x low e) ∙ is_in)
        ∙ sym (ap (λ (b : Bool). eqb x low || b) (elem_drives x others (minus_lt 64 m (single low) h) ∙ has_others x)))

pub lowest_removed : (m : ℕ) → m < 2 ^ 64 → (m ≡ 0 → ⊥) → size (minus m (single (lowest m))) < size m
lowest_removed m h ne =
    let e = lowest_has m h ne in
    let w = has_bounds 64 (lowest m) m h e in
    omega (arith, size_remove (lowest m) m w.0 w.1 e)

pub drives_none : drives 0 ≡ []
unfolding drives filter range has
drives_none = refl

-- a set of k drives or more holds one of k
pub part_of_size : (j k m : ℕ) → m < 2 ^ 64 → size m ≡ k + j → (g : ℕ) × (subset g m ≡ true) × (size g ≡ k)
part_of_size zero k m lt e = (m, subset_refl m, omega (arith, e))
part_of_size (suc j) k m lt e =
    let some : m ≡ 0 → ⊥ = λ z. omega (arith, e, ap size z, size_none) in
    let own = lowest_has m lt some in
    let bounds = has_bounds 64 (lowest m) m lt own in
    let rest : ℕ = minus m (single (lowest m)) in
    let less : rest < 2 ^ 64 = minus_lt 64 m (single (lowest m)) lt in
    let found = part_of_size j k rest less (omega (arith, e, size_remove (lowest m) m bounds.0 bounds.1 own)) in (
      found.0,
      subset_trans 64 found.0 rest m (subset_lt 64 found.0 rest found.1 less) found.1 (subset_minus 64 m (single (lowest m)) lt),
      found.2,
    )
