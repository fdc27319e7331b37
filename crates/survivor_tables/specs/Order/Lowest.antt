-- Two masks compared by the lowest drive that only one of them holds: the test says just that, and of two different
-- masks one passes it.
use Rattle.std.specs.Prelude.{◌≡◌, refl, true, not, ◌⊎◌, ℕ, ◌^◌, ◌≤◌, ◌<◌, ltb}
use Rattle.std.proofs.Common.{sym, ap, ◌∙◌, inl, inr, arith, ltb-true, ltb-false}
use Rattle.std.specs.Bool.{beq}
use Rattle.std.specs.Int.Bits.{and_le_l, and_le_r, xor_add_and}
use Rattle.std.specs.Int.Count.{ones_in}
use Rattle.std.proofs.lemmas.Bool.{not-true}
use Rattle.drive_sets.specs.Bools.Laws.{clash, by_test, false_of, true_of, beq_eq, eq_beq}
use Rattle.drive_sets.specs.Masks.{has, full, minus, only_one, meets, size, lowest_alone}
use Rattle.drive_sets.specs.Masks.Laws.{has_only_one, has_bounds, full_has, full_lt, has_subset}
use Rattle.drive_sets.specs.Masks.Sizes.{size_full, subset_size}
use Rattle.drive_sets.specs.Masks.Lowest.{lowest_alone_law, none_alone}
use Rattle.survivor_tables.specs.Order.{by_mask, by_lowest, HoldsLowest, by_size}

module _ (x y : ℕ) where
  none_only : only_one x y ≡ 0 → x ≡ y
  unfolding only_one
  none_only e = omega (arith, e, xor_add_and x y, and_le_l x y, and_le_r x y)

  -- a drive that only one of the two holds
  only_one_law : (d : ℕ) → (has d x ≡ has d y → ⊥) → has d (only_one x y) ≡ true
  only_one_law d ne = has_only_one d x y ∙ ap not (false_of (beq (has d x) (has d y)) (λ b. ne (beq_eq (has d x) (has d y) b)))

  module _ (some : only_one x y ≡ 0 → ⊥) where
    -- the lowest of them
    abbrev first : ℕ
    first = (lowest_alone_law (only_one x y) some).0

    first_told : by_lowest x y ≡ has first x
    unfolding by_lowest
    first_told = (lowest_alone_law (only_one x y) some).3 x

    first_differs : has first x ≡ has first y → ⊥
    first_differs e =
        clash (eq_beq (has first x) (has first y) e)
        (not-true (beq (has first x) (has first y)) (sym (has_only_one first x y) ∙ (lowest_alone_law (only_one x y) some).1))

    first_same : (e : ℕ) → e < first → has e x ≡ has e y
    first_same e less =
        beq_eq (has e x) (has e y) (true_of (beq (has e x) (has e y)) (λ b.
        absurd (omega (arith, less, (lowest_alone_law (only_one x y) some).2 e (has_only_one e x y ∙ ap not b)))))

-- the test holds exactly if x holds the lowest drive that only one of the two holds
pub lowest_first : (x y : ℕ) → by_lowest x y ≡ true → (d : ℕ) × HoldsLowest x y d
unfolding by_lowest
lowest_first x y h =
    let holds = sym (first_told x y some) ∙ h in (
      first x y some,
      record { holds = holds; lacks = false_of (has (first x y some) y) (λ e. first_differs x y some (holds ∙ sym e)); same = first_same x y some },
    )
  where
    some : only_one x y ≡ 0 → ⊥
    some e = clash h (ap (λ (m : ℕ). meets (lowest_alone m) x) e ∙ none_alone x)

pub first_lowest : (x y d : ℕ) → HoldsLowest x y d → by_lowest x y ≡ true
first_lowest x y d f = first_told x y some ∙ (ap (λ (e : ℕ). has e x) is_first ∙ f.holds)
  where
    differs : has d x ≡ has d y → ⊥
    differs e = clash f.holds (e ∙ f.lacks)

    some : only_one x y ≡ 0 → ⊥
    some e = differs (ap (has d) (none_only x y e))

    is_first : first x y some ≡ d
    is_first =
        by_test (ltb (first x y some) d)
        (λ less. absurd (first_differs x y some (f.same (first x y some) (ltb-true (first x y some) d less))))
        (λ more. omega (arith, ltb-false (first x y some) d more, (lowest_alone_law (only_one x y) some).2 d (only_one_law x y d differs)))

pub lowest_total : (x y : ℕ) → (x ≡ y → ⊥) → (by_lowest x y ≡ true) ⊎ (by_lowest y x ≡ true)
lowest_total x y ne =
    let some : only_one x y ≡ 0 → ⊥ = λ e. ne (none_only x y e) in
    by_test (has (first x y some) x)
    (λ h. inl (first_told x y some ∙ h))
    (λ h. inr (first_lowest y x (first x y some) (record {
      holds = true_of (has (first x y some) y) (λ e. absurd (first_differs x y some (h ∙ sym e)));
      lacks = h;
      same = λ e less. sym (first_same x y some e less);
    })))

-- no set of k drives stands before drives 1 to k
pub full_lowest : (k m : ℕ) → k ≤ 64 → m < 2 ^ 64 → size m ≡ k → by_lowest m (full k) ≡ true → ⊥
full_lowest k m frame word e h =
    let w = lowest_first m (full k) h in
    let above : k < w.0 = ltb-true k w.0 (true_of (ltb k w.0) (λ t.
    clash (full_has w.0 k frame (has_bounds 64 w.0 m word w.1.holds).0 (ltb-false k w.0 t)) w.1.lacks)) in
    let part = has_subset k (full k) m (full_lt k) (λ d i. w.1.same d (omega (arith, above, (has_bounds k d (full k) (full_lt k) i).1)) ∙ i) in
    let same = subset_size (full k) m word part (omega (arith, e, size_full k frame)) in
    clash (ap (has w.0) same ∙ w.1.holds) w.1.lacks

-- document 02: {1, 4} comes before {2, 3}; by mask it was the other way
pub one_and_four_first : (by_size 9 6 ≡ true) × (by_mask 6 9 ≡ true)
unfolding by_mask by_lowest by_size meets lowest_alone minus only_one size ones_in
one_and_four_first = (refl, refl)
