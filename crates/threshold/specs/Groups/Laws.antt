-- The groups of k out of n drives are all sets of the frame with k drives, each once, by mask; how many there are.
use Rattle.std.specs.Prelude.{◌≡◌, refl, true, List, [], ◌∷◌, map, ℕ, zero, suc, ◌+◌, ◌-◌, ◌*◌, ◌^◌, ◌≤◌, ◌<◌, ltb, length}
use Rattle.std.proofs.Common.{sym, ap₂, ◌∙◌, subst, ⊎_elim, le_refl, pow-suc, pow_pos, pow_mono, length-append, lt-ltb, ltb-true, ltb-false}
use Rattle.std.proofs.Math.Path.{ap}
use native.Mathlib.Omega.{arith}
use Rattle.std.proofs.Math.Arith.{lt-one}
use Rattle.std.proofs.lemmas.Nat.{or_shifted, ones_cat}
use Rattle.std.specs.Int.Count.{ones, ones_in}
use Rattle.std.proofs.lemmas.List.{length-map}
use Rattle.drive_sets.specs.Bools.Laws.{clash, by_test, cond_true}
use Rattle.drive_sets.specs.Lists.{all, elem, ordered}
use Rattle.drive_sets.specs.Lists.Laws.{ordered_append, elem_none, elem_some, elem_one, elem_head, elem_append_left, elem_append_right, elem_append_cases}
use Rattle.drive_sets.specs.Lists.Places.{elem_map, map_elem, ordered_map}
use Rattle.drive_sets.specs.Masks.{single, full, union, size}
use Rattle.drive_sets.specs.Masks.Laws.{full_lt}
use Rattle.drive_sets.specs.Masks.Sizes.{ones_size, size_none, none_size, size_full}
use Rattle.threshold.specs.Groups.{groups, group_count}

-- ---- how many there are

pub count_zero : (n : ℕ) → group_count 0 n ≡ 1
unfolding group_count groups
count_zero n = refl

pub count_none : (k : ℕ) → group_count (suc k) 0 ≡ 0
unfolding group_count groups
count_none k = refl

pub count_sum : (k n : ℕ) → group_count (suc k) (suc n) ≡ group_count (suc k) n + group_count k n
unfolding group_count groups
count_sum k n =
    length-append (groups (suc k) n) (map (union (single (suc n))) (groups k n))
    ∙ ap (λ (x : ℕ). length (groups (suc k) n) + x) (length-map (groups k n) (union (single (suc n))))

-- more drives than there are have no group, and all of them have one
count_above : (k n : ℕ) → n < k → group_count k n ≡ 0
count_above zero n h = absurd (omega arith)
count_above (suc k) zero h = count_none k
count_above (suc k) (suc n) h = count_sum k n ∙ ap₂ ◌+◌ (count_above (suc k) n (omega arith)) (count_above k n (omega arith))

pub count_all : (n : ℕ) → group_count n n ≡ 1
count_all zero = count_zero 0
count_all (suc n) = count_sum n n ∙ ap₂ ◌+◌ (count_above (suc n) n (omega arith)) (count_all n)

-- as many groups of k drives as of the others
count_symmetric : (j k : ℕ) → group_count j (j + k) ≡ group_count k (j + k)
count_symmetric zero k = count_zero (0 + k) ∙ sym (ap (group_count k) (omega arith) ∙ count_all k)
count_symmetric (suc j) zero = ap (group_count (suc j)) (omega arith) ∙ (count_all (suc j) ∙ sym (count_zero (suc j + 0)))
count_symmetric (suc j) (suc k) =
    ap (group_count (suc j)) place
    ∙ (count_sum j (suc j + k)
    ∙ (omega (arith, count_symmetric (suc j) k, ap (group_count j) other, count_symmetric j (suc k), ap (group_count (suc k)) other)
    ∙ sym (ap (group_count (suc k)) place ∙ count_sum k (suc j + k))))
  where
    place : suc j + suc k ≡ suc (suc j + k)
    place = omega arith

    other : suc j + k ≡ j + suc k
    other = omega arith

pub count_others : (k n : ℕ) → k ≤ n → group_count (n - k) n ≡ group_count k n
count_others k n h = let whole : (n - k) + k ≡ n = omega arith in subst (λ (m : ℕ). group_count (n - k) m ≡ group_count k m) whole (count_symmetric (n - k) k)

-- ---- which they are

one : ones 1 ≡ 1
unfolding ones ones_in
one = refl

-- drive n + 1 added to a set of drives 1 to n
module _ (n : ℕ) (frame : n < 64) (g : ℕ) (lt : g < 2 ^ n) where
  with_last : union (single (suc n)) g ≡ 2 ^ n + g
  unfolding union single
  with_last = ap (λ (s : ℕ). union s g) (cond_true (2 ^ n) 0 (lt-ltb n 64 frame) ∙ once) ∙ (or_shifted 1 n g lt ∙ omega arith)
    where
      once : 2 ^ n ≡ 1 * 2 ^ n
      once = omega arith

  size_with_last : size (2 ^ n + g) ≡ suc (size g)
  size_with_last =
      sym (ones_size (2 ^ n + g) (omega (arith, pow-suc 2 n, pow_mono {i = suc n} {j = 64} frame)))
      ∙ (ap ones once ∙ (ones_cat n 1 g lt ∙ omega (arith, one, ones_size g (omega (arith, pow_mono {i = n} {j = 64} (omega arith))))))
    where
      once : 2 ^ n + g ≡ 1 * 2 ^ n + g
      once = omega arith

-- each is a set of drives 1 to n that has k drives
pub groups_sound : (k n g : ℕ) → n ≤ 64 → elem g (groups k n) ≡ true → (g < 2 ^ n) × (size g ≡ k)
unfolding groups
groups_sound zero n g frame h = let e = elem_one g 0 h in (rw e (pow_pos n), ap size e ∙ size_none)
groups_sound (suc k) zero g frame h = absurd (clash h (elem_none g))
groups_sound (suc k) (suc n) g frame h =
    ⊎_elim
    (λ w. let low = groups_sound (suc k) n g (omega arith) w in (omega (arith, low.0, pow-suc 2 n), low.1))
    (λ w.
    let m = map_elem (union (single (suc n))) g (groups k n) w in
    let rest = groups_sound k n m.0 (omega arith) m.1 in
    let e : g ≡ 2 ^ n + m.0 = m.2 ∙ with_last n frame m.0 rest.0 in
    (omega (arith, e, rest.0, pow-suc 2 n), ap size e ∙ (size_with_last n frame m.0 rest.0 ∙ ap suc rest.1)))
    (elem_append_cases g (groups (suc k) n) (map (union (single (suc n))) (groups k n)) h)

-- each such set is one of them
pub groups_complete : (k n g : ℕ) → n ≤ 64 → g < 2 ^ n → size g ≡ k → elem g (groups k n) ≡ true
unfolding groups
groups_complete zero n g frame lt e =
    let none = none_size g (omega (arith, lt, pow_mono {i = n} {j = 64} frame)) e in rw none (elem_head 0 [])
groups_complete (suc k) zero g frame lt e = absurd (omega (arith, e, ap size (lt-one lt), size_none))
groups_complete (suc k) (suc n) g frame lt e =
    by_test (ltb g (2 ^ n))
    (λ t. elem_append_left g (groups (suc k) n) (map (union (single (suc n))) (groups k n))
    (groups_complete (suc k) n g (omega arith) (ltb-true g (2 ^ n) t) e))
    (λ t.
    let rest : ℕ = g - 2 ^ n in
    let high = ltb-false g (2 ^ n) t in
    let low : rest < 2 ^ n = omega (arith, lt, high, pow-suc 2 n) in
    let whole : 2 ^ n + rest ≡ g = omega (arith, high) in
    let others : size rest ≡ k = omega (arith, size_with_last n frame rest low, ap size whole, e) in
    elem_append_right g (groups (suc k) n) (map (union (single (suc n))) (groups k n))
    (subst (λ (x : ℕ). elem x (map (union (single (suc n))) (groups k n)) ≡ true) (with_last n frame rest low ∙ whole)
    (elem_map (union (single (suc n))) rest (groups k n) (groups_complete k n rest (omega arith) low others))))

-- ---- their order

-- by mask, so each once
pub groups_ordered : (k n : ℕ) → n ≤ 64 → ordered ltb (groups k n) ≡ true
unfolding groups ordered all
groups_ordered zero n frame = refl
groups_ordered (suc k) zero frame = refl
groups_ordered (suc k) (suc n) frame =
    let plus : ℕ → ℕ = union (single (suc n)) in
    let value : (g : ℕ) → elem g (groups k n) ≡ true → plus g ≡ 2 ^ n + g = λ g h. with_last n frame g (groups_sound k n g (omega arith) h).0 in
    ordered_append ltb (groups (suc k) n) (map plus (groups k n)) (groups_ordered (suc k) n (omega arith))
    (ordered_map ltb plus (groups k n) (groups_ordered k n (omega arith)) (λ x y h j less.
    lt-ltb (plus x) (plus y) (omega (arith, ltb-true x y less, value x h, value y j))))
    (λ x y h j.
    let m = map_elem plus y (groups k n) j in
    lt-ltb x y (omega (arith, (groups_sound (suc k) n x (omega arith) h).0, m.2, value m.0 m.1)))

-- drives 1 to k are one of them
pub full_group : (k n : ℕ) → k ≤ n → n ≤ 64 → elem (full k) (groups k n) ≡ true
full_group k n most frame =
    groups_complete k n (full k) frame (omega (arith, full_lt k, pow_mono {i = k} {j = n} most)) (size_full k (omega arith))

pub some_groups : (k n : ℕ) → k ≤ n → n ≤ 64 → 1 ≤ length (groups k n)
some_groups k n most frame = elem_some (full k) (groups k n) (full_group k n most frame)

-- all drives are one group
pub all_group : (n : ℕ) → n ≤ 64 → groups n n ≡ full n ∷ []
unfolding group_count
all_group n frame = only (groups n n) (count_all n) (full_group n n (le_refl n) frame)
  where
    only : (l : List ℕ) → length l ≡ 1 → elem (full n) l ≡ true → l ≡ full n ∷ []
    only [] e h = absurd (omega (arith, e))
    only (x ∷ []) e h = ap (λ (g : ℕ). g ∷ []) (sym (elem_one (full n) x h))
    only (x ∷ y ∷ l) e h = absurd (omega (arith, e))
