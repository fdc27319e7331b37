-- One drive d: added to a set, taken from a set, and the only one that two sets share.
use Rattle.std.specs.Prelude.{◌≡◌, refl, Bool, true, false, not, ◌&&◌, ◌||◌, ◌⊎◌, ℕ, ◌^◌, ◌≤◌, ◌<◌, eqb}
use Rattle.std.proofs.Common.{sym, ap, ◌∙◌, inl, inr, ⊎_elim, arith, eqb-true, eq-eqb, ne_eqb}
use Rattle.std.proofs.lemmas.Bool.{eqb-false, not-true}
use Rattle.drive_sets.specs.Bools.Laws.{clash, by_test, same_test, and_intro, and_left, and_right, or_left, or_right, or_cases}
use Rattle.drive_sets.specs.Masks.{has, single, union, common, minus, subset, size, lowest}
use Rattle.drive_sets.specs.Masks.Laws.{has_union, has_common, has_minus, has_single, has_bounds, has_ext, common_lt_right, union_lt, minus_lt, single_lt, subset_has}
use Rattle.drive_sets.specs.Masks.Sizes.{size_none, lowest_has, size_single, single_subset, subset_size}

module _ (d : ℕ) (low : 1 ≤ d) (high : d ≤ 64) where
  pub single_has : has d (single d) ≡ true
  single_has = has_single d d low high ∙ eq-eqb d d refl

  pub has_one : (x : ℕ) → has x (single d) ≡ true → x ≡ d
  has_one x h = eqb-true x d (sym (has_single x d low high) ∙ h)

  -- ---- m with d

  pub has_insert : (x m : ℕ) → has x (union m (single d)) ≡ (has x m || eqb x d)
  has_insert x m = has_union x m (single d) ∙ ap (λ (b : Bool). has x m || b) (has_single x d low high)

  pub insert_has : (m : ℕ) → has d (union m (single d)) ≡ true
  insert_has m = has_insert d m ∙ or_right (has d m) (eq-eqb d d refl)

  pub insert_keeps : (x m : ℕ) → has x m ≡ true → has x (union m (single d)) ≡ true
  insert_keeps x m h = has_insert x m ∙ or_left (eqb x d) h

  pub insert_cases : (x m : ℕ) → has x (union m (single d)) ≡ true → (has x m ≡ true) ⊎ (x ≡ d)
  insert_cases x m h = ⊎_elim (λ e. inl e) (λ e. inr (eqb-true x d e)) (or_cases (has x m) (eqb x d) (sym (has_insert x m) ∙ h))

  -- a drive that m lacks and m with d has is d
  pub insert_new : (x m : ℕ) → has x m ≡ false → has x (union m (single d)) ≡ true → x ≡ d
  insert_new x m e h = ⊎_elim (λ i. absurd (clash i e)) (λ i. i) (insert_cases x m h)

  pub insert_lt : (m : ℕ) → m < 2 ^ 64 → union m (single d) < 2 ^ 64
  insert_lt m h = union_lt 64 m (single d) h (single_lt 64 d high)

  -- ---- m without d

  pub has_remove : (x m : ℕ) → has x (minus m (single d)) ≡ (has x m && not (eqb x d))
  has_remove x m = has_minus x m (single d) ∙ ap (λ (b : Bool). has x m && not b) (has_single x d low high)

  pub remove_keeps : (x m : ℕ) → has x m ≡ true → (x ≡ d → ⊥) → has x (minus m (single d)) ≡ true
  remove_keeps x m h ne = has_remove x m ∙ and_intro h (ap not (ne_eqb x d ne))

  pub remove_has : (x m : ℕ) → has x (minus m (single d)) ≡ true → (has x m ≡ true) × (x ≡ d → ⊥)
  remove_has x m h =
      let both = sym (has_remove x m) ∙ h in
      (and_left (has x m) (not (eqb x d)) both, eqb-false x d (not-true (eqb x d) (and_right (has x m) (not (eqb x d)) both)))

  pub insert_remove : (m : ℕ) → m < 2 ^ 64 → has d m ≡ true → union (minus m (single d)) (single d) ≡ m
  insert_remove m h e =
      has_ext 64 (union (minus m (single d)) (single d)) m (insert_lt (minus m (single d)) (minus_lt 64 m (single d) h)) h
      (λ x p q. same_test (has x (union (minus m (single d)) (single d))) (has x m)
      (λ i. ⊎_elim (λ r. (remove_has x m r).0) (λ r. ap (λ (y : ℕ). has y m) r ∙ e) (insert_cases x (minus m (single d)) i))
      (λ i. by_test (eqb x d)
      (λ r. ap (λ (y : ℕ). has y (union (minus m (single d)) (single d))) (eqb-true x d r) ∙ insert_has (minus m (single d)))
      (λ r. insert_keeps x (minus m (single d)) (remove_keeps x m i (eqb-false x d r)))))

  pub remove_insert : (m : ℕ) → m < 2 ^ 64 → has d m ≡ false → minus (union m (single d)) (single d) ≡ m
  remove_insert m h e =
      has_ext 64 (minus (union m (single d)) (single d)) m (minus_lt 64 (union m (single d)) (single d) (insert_lt m h)) h
      (λ x p q. same_test (has x (minus (union m (single d)) (single d))) (has x m)
      (λ i. let w = remove_has x (union m (single d)) i in ⊎_elim (λ r. r) (λ r. absurd (w.1 r)) (insert_cases x m w.0))
      (λ i. remove_keeps x (union m (single d)) (insert_keeps x m i) (λ r. clash i (ap (λ (y : ℕ). has y m) r ∙ e))))

  -- ---- a set of one drive

  pub has_lone : (m : ℕ) → m < 2 ^ 64 → size m ≡ 1 → has d m ≡ eqb m (single d)
  has_lone m h e =
      same_test (has d m) (eqb m (single d))
      (λ i. eq-eqb m (single d) (sym (subset_size (single d) m h (single_subset d m low high i) (omega (arith, size_single d low high)))))
      (λ i. ap (has d) (eqb-true m (single d) i) ∙ single_has)

  -- ---- d is the only drive that s and m share

  pub share_one : (s m : ℕ) → m < 2 ^ 64 → has d s ≡ true → has d m ≡ true → ((x : ℕ) → has x s ≡ true → has x m ≡ true → x ≡ d) → common s m ≡ single d
  share_one s m h p q f =
      has_ext 64 (common s m) (single d) (common_lt_right 64 s m h) (single_lt 64 d high)
      (λ x _ _. same_test (has x (common s m)) (has x (single d))
      (λ i. let both = sym (has_common x s m) ∙ i in
      ap (λ (y : ℕ). has y (single d)) (f x (and_left (has x s) (has x m) both) (and_right (has x s) (has x m) both)) ∙ single_has)
      (λ i. ap (λ (y : ℕ). has y (common s m)) (has_one x i) ∙ (has_common d s m ∙ and_intro p q)))

  module _ (s m : ℕ) (e : common s m ≡ single d) where
    pub shared_has : (has d s ≡ true) × (has d m ≡ true)
    shared_has =
        let both = sym (has_common d s m) ∙ (ap (has d) e ∙ single_has) in
        (and_left (has d s) (has d m) both, and_right (has d s) (has d m) both)

    pub shared_only : (x : ℕ) → has x s ≡ true → has x m ≡ true → x ≡ d
    shared_only x p q = has_one x (sym (ap (has x) e) ∙ (has_common x s m ∙ and_intro p q))

    -- and the only one that s shares with a part of m that has it
    pub shared_part : (t : ℕ) → t < 2 ^ 64 → subset t m ≡ true → has d t ≡ true → common s t ≡ single d
    shared_part t h p q = share_one s t h shared_has.0 q (λ x i j. shared_only x i (subset_has x t m p j))

-- a set of one drive has its lowest drive alone
pub lone_has : (m : ℕ) → m < 2 ^ 64 → size m ≡ 1 → has (lowest m) m ≡ true
lone_has m h e = lowest_has m h (λ z. omega (arith, sym e ∙ (ap size z ∙ size_none)))

pub lone_single : (m : ℕ) → m < 2 ^ 64 → size m ≡ 1 → m ≡ single (lowest m)
lone_single m h e =
    let i = lone_has m h e in
    let w = has_bounds 64 (lowest m) m h i in
    eqb-true m (single (lowest m)) (sym (has_lone (lowest m) w.0 w.1 m h e) ∙ i)
