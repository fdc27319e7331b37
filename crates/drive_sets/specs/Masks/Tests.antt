-- Sets given by a test: the mask of the drives 1 to 64 that pass it. Each operation on masks is one on tests, and the
-- masks of tests that drives 1 to n alone can pass are compared and listed by going through those drives.
use Rattle.std.specs.Prelude.{◌≡◌, Bool, true, false, not, ◌&&◌, ◌||◌, ℕ, ◌^◌, ◌≤◌, ◌<◌, eqb}
use Rattle.std.proofs.Common.{sym, ap, ap₂, ◌∙◌, arith, eqb-true, eq-eqb}
use Rattle.std.proofs.Math.Path.{fun_ext}
use Rattle.std.specs.Bool.{beq}
use Rattle.std.proofs.lemmas.Bool.{not-true}
use Rattle.drive_sets.specs.Bools.{◌⊆◌}
use Rattle.drive_sets.specs.Bools.Laws.{clash, false_of, true_of, same_test, and_left, and_right, beq_eq, eq_beq}
use Rattle.drive_sets.specs.Lists.{range, filter, all, any, elem}
use Rattle.drive_sets.specs.Lists.Laws.{elem_range, range_elem, elem_filter, all_elem, all_intro, any_elem, any_intro}
use Rattle.drive_sets.specs.Masks.{has, single, union, subset, drives, of_drives}
use Rattle.drive_sets.specs.Masks.Laws.{has_none, has_union, has_single, has_bounds, has_ext, union_lt, single_lt, has_subset, none_has}
use Rattle.drive_sets.specs.Masks.Frames.{drives_frame}
use Rattle.drive_sets.specs.Masks.Sizes.{of_drives_lt, has_of_drives, of_drives_drives}

-- the drives that pass the test
unfoldable pub set_of : (ℕ → Bool) → ℕ
set_of p = of_drives (filter p (range 1 64))

kept_bounds : (p : ℕ → Bool) (d : ℕ) → elem d (filter p (range 1 64)) ≡ true → (1 ≤ d) × (d ≤ 64)
kept_bounds p d h =
    let w = elem_range d 1 64 (and_left (elem d (range 1 64)) (p d) (sym (elem_filter p d (range 1 64)) ∙ h)) in (w.0, omega arith)

module _ (p : ℕ → Bool) where
  in_set_of : (d : ℕ) → has d (set_of p) ≡ (elem d (range 1 64) && p d)
  unfolding set_of
  in_set_of d = has_of_drives d (filter p (range 1 64)) (kept_bounds p) ∙ elem_filter p d (range 1 64)

  set_of_at : (d : ℕ) → 1 ≤ d → d ≤ 64 → has d (set_of p) ≡ p d
  set_of_at d low high = in_set_of d ∙ ap (λ (b : Bool). b && p d) (range_elem d 1 64 low (omega arith))

  set_of_passes : (d : ℕ) → has d (set_of p) ≡ true → p d ≡ true
  set_of_passes d h = and_right (elem d (range 1 64)) (p d) (sym (in_set_of d) ∙ h)

  pub set_of_lt : set_of p < 2 ^ 64
  unfolding set_of
  set_of_lt = of_drives_lt 64 (filter p (range 1 64)) (λ d h. (kept_bounds p d h).1)

  -- a test that nobody passes gives the empty set
  pub set_of_none : ((d : ℕ) → p d ≡ false) → set_of p ≡ 0
  set_of_none f = none_has 64 (set_of p) set_of_lt (λ d. false_of (has d (set_of p)) (λ h. clash (set_of_passes d h) (f d)))

-- a mask is the set of its drives
pub set_of_drives : (m : ℕ) → m < 2 ^ 64 → set_of (λ d. has d m) ≡ m
unfolding set_of drives
set_of_drives m h = of_drives_drives m h

-- the set of one drive
pub set_of_single : (d : ℕ) → 1 ≤ d → d ≤ 64 → single d ≡ set_of (λ x. eqb x d)
set_of_single d low high =
    has_ext 64 (single d) (set_of (λ x. eqb x d)) (single_lt 64 d high) (set_of_lt (λ x. eqb x d))
    (λ x p q. has_single x d low high ∙ sym (set_of_at (λ y. eqb y d) x p q))

module _ (p q : ℕ → Bool) where
  pub union_set_of : union (set_of p) (set_of q) ≡ set_of (λ x. p x || q x)
  union_set_of =
      has_ext 64 (union (set_of p) (set_of q)) (set_of (λ x. p x || q x)) (union_lt 64 (set_of p) (set_of q) (set_of_lt p) (set_of_lt q)) (set_of_lt (λ x. p x || q x))
      (λ d low high. has_union d (set_of p) (set_of q)
      ∙ (ap₂ ◌||◌ (set_of_at p d low high) (set_of_at q d low high) ∙ sym (set_of_at (λ x. p x || q x) d low high)))

  pub subset_set_of : p ⊆ q → subset (set_of p) (set_of q) ≡ true
  subset_set_of f =
      has_subset 64 (set_of p) (set_of q) (set_of_lt p)
      (λ d h. let b = has_bounds 64 d (set_of p) (set_of_lt p) h in set_of_at q d b.0 b.1 ∙ f d (set_of_passes p d h))

-- a set with one more drive
pub insert_set_of : (p : ℕ → Bool) (d : ℕ) → 1 ≤ d → d ≤ 64 → union (set_of p) (single d) ≡ set_of (λ x. p x || eqb x d)
insert_set_of p d low high = ap (union (set_of p)) (set_of_single d low high) ∙ union_set_of p (λ x. eqb x d)

-- ---- tests that drives 1 to n alone can pass

-- the drives 1 to n
abbrev pub up_to : ℕ → ℕ → Bool
up_to n d = elem d (range 1 n)

module _ (n : ℕ) (frame : n ≤ 64) where
  module _ (p : ℕ → Bool) (within : p ⊆ up_to n) where
    within_bounds : (d : ℕ) → p d ≡ true → (1 ≤ d) × (d ≤ n)
    within_bounds d h = let w = elem_range d 1 n (within d h) in (w.0, omega arith)

    pub has_set_of : (d : ℕ) → has d (set_of p) ≡ p d
    has_set_of d =
        same_test (has d (set_of p)) (p d) (set_of_passes p d)
        (λ h. let b = within_bounds d h in set_of_at p d b.0 (omega arith) ∙ h)

    pub set_of_within : set_of p < 2 ^ n
    unfolding set_of
    set_of_within =
        of_drives_lt n (filter p (range 1 64)) (λ d h. (within_bounds d (and_right (elem d (range 1 64)) (p d) (sym (elem_filter p d (range 1 64)) ∙ h))).1)

    pub drives_set_of : drives (set_of p) ≡ filter p (range 1 n)
    drives_set_of = drives_frame n (set_of p) set_of_within frame ∙ ap (λ (q : ℕ → Bool). filter q (range 1 n)) (fun_ext has_set_of)

    -- the set is not empty just if some drive passes
    pub set_of_some : not (eqb (set_of p) 0) ≡ any p (range 1 n)
    set_of_some =
        same_test (not (eqb (set_of p) 0)) (any p (range 1 n))
        (λ h. true_of (any p (range 1 n)) (λ e.
        clash (eq-eqb (set_of p) 0 (set_of_none p (λ d. false_of (p d) (λ t. clash (any_intro p (range 1 n) d (within d t) t) e)))) (not-true (eqb (set_of p) 0) h)))
        (λ h. let w = any_elem p (range 1 n) h in
        ap not (false_of (eqb (set_of p) 0) (λ z. clash (has_set_of w.0 ∙ w.2) (ap (has w.0) (eqb-true (set_of p) 0 z) ∙ has_none w.0))))

  -- two sets are equal just if the tests agree
  pub set_of_equal : (p q : ℕ → Bool) → p ⊆ up_to n → q ⊆ up_to n → eqb (set_of p) (set_of q) ≡ all (λ d. beq (p d) (q d)) (range 1 n)
  set_of_equal p q within_p within_q =
      same_test (eqb (set_of p) (set_of q)) (all agree (range 1 n))
      (λ e. all_intro agree (range 1 n) (λ d h. eq_beq (p d) (q d)
      (sym (has_set_of p within_p d) ∙ (ap (has d) (eqb-true (set_of p) (set_of q) e) ∙ has_set_of q within_q d))))
      (λ a. eq-eqb (set_of p) (set_of q) (ap set_of (fun_ext (λ d. same_test (p d) (q d)
      (λ t. sym (beq_eq (p d) (q d) (all_elem agree (range 1 n) d a (within_p d t))) ∙ t)
      (λ t. beq_eq (p d) (q d) (all_elem agree (range 1 n) d a (within_q d t)) ∙ t)))))
    where
      agree : ℕ → Bool
      agree d = beq (p d) (q d)
