-- The drives 1 to n outside a set: what is part of them misses the set, what meets them is no part of it, and how many
-- they are.
use Rattle.std.specs.Prelude.{◌≡◌, true, false, not, ◌&&◌, ℕ, ◌+◌, ◌^◌, ◌≤◌, ◌<◌}
use Rattle.std.proofs.Common.{sym, ap, ◌∙◌, arith}
use Rattle.std.proofs.lemmas.Bool.{not-true}
use Rattle.drive_sets.specs.Bools.Laws.{clash, false_of, same_test, and_intro, and_right}
use Rattle.drive_sets.specs.Masks.{has, full, outside, meets, subset, size}
use Rattle.drive_sets.specs.Masks.Laws.{has_minus, has_bounds, full_has, minus_lt, full_lt, subset_has, has_subset, subset_not, has_meets, meets_has, meets_not, not_meets, subset_full}
use Rattle.drive_sets.specs.Masks.Sizes.{size_minus, size_full, common_subset}

pub outside_lt : (n m : ℕ) → outside n m < 2 ^ n
unfolding outside
outside_lt n m = minus_lt n (full n) m (full_lt n)

pub has_outside : (d n m : ℕ) → has d (outside n m) ≡ (has d (full n) && not (has d m))
unfolding outside
has_outside d n m = has_minus d (full n) m

module _ (n a m : ℕ) (frame : n ≤ 64) (lt : a < 2 ^ n) where
  -- of a's drives, those outside m are those that m does not have
  outside_not : (d : ℕ) → has d (outside n m) ≡ true → has d m ≡ false
  outside_not d h = not-true (has d m) (and_right (has d (full n)) (not (has d m)) (sym (has_outside d n m) ∙ h))

  not_outside : (d : ℕ) → has d a ≡ true → has d m ≡ false → has d (outside n m) ≡ true
  not_outside d h e = let w = has_bounds n d a lt h in has_outside d n m ∙ and_intro (full_has d n frame w.0 w.1) (ap not e)

  pub subset_outside : subset a (outside n m) ≡ not (meets a m)
  subset_outside =
      same_test (subset a (outside n m)) (not (meets a m))
      (λ h. ap not (not_meets n a m lt (λ d e. outside_not d (subset_has d a (outside n m) h e))))
      (λ h. has_subset n a (outside n m) lt (λ d e. not_outside d e (meets_not d a m (not-true (meets a m) h) e)))

  pub meets_outside : meets a (outside n m) ≡ not (subset a m)
  meets_outside =
      same_test (meets a (outside n m)) (not (subset a m))
      (λ h. let w = meets_has n a (outside n m) lt h in
      ap not (false_of (subset a m) (λ e. clash (subset_has w.0 a m e w.1) (outside_not w.0 w.2))))
      (λ h. let w = subset_not n a m lt (not-true (subset a m) h) in has_meets w.0 a (outside n m) w.1 (not_outside w.0 w.1 w.2))

-- how many drives are outside
pub size_outside : (n m : ℕ) → n ≤ 64 → m < 2 ^ n → size (outside n m) + size m ≡ n
unfolding outside
size_outside n m frame lt = omega (arith, size_minus (full n) m, size_full n frame, ap size (common_subset m (full n) (subset_full n m frame lt)))
