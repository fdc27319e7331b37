-- The table of pattern numbers: its entries, and the table after some numbers are stored.
use mathlib.Core.Path.{◌≡◌, refl, sym, ap, ◌∙◌, fun_ext}
use mathlib.Core.Bool.{Bool, true, false, ◌||◌, cond, or_assoc}
use mathlib.Core.List.{List, [], ◌∷◌, map}
use Prim.Native.Nat.{ℕ, zero, suc, ◌+◌, ◌-◌, ◌≤◌, ◌<◌}
use native.Mathlib.Omega.{arith}
use lib.Dec.{eqb}
use lib.ListN.{length, get_or, set, replicate, length-set, length-map}
use lib.Seq.{ext_get_or, get_or-set_same, get_or-set_other}
use borrow.Author.Tests.{eqb-true, eqb-false}
use Rattle.drive_sets.specs.declared.Pattern.{Pattern}
use Rattle.drive_sets.specs.Bools.Laws.{by_test, or_right, or_false}
use Rattle.drive_sets.specs.Lists.{range, any, elem}
use Rattle.drive_sets.specs.Lists.Laws.{elem_head, elem_tail}
use Rattle.drive_sets.specs.Lists.Places.{length_range}
use Rattle.drive_states.specs.State.{pattern, number_in}
use Rattle.drive_states.specs.Messages.{entry_of}
use Rattle.agreement.specs.Calls.{stored}
use Rattle.agreement.proofs.States.{numbers_of}

-- ---- entries

at_range : (f : ℕ → Pattern) (k a i : ℕ) → i < k → get_or (map f (range a k)) i (pattern 0) ≡ f (a + i)
unfolding range
at_range f zero a i h = absurd (omega arith)
at_range f (suc k) a zero h = ap f (omega arith)
at_range f (suc k) a (suc i) h = at_range f k (suc a) i (omega arith) ∙ ap f (omega arith)

module _ (number : ℕ → ℕ) where
  length_table : (p : ℕ → Bool) → length (numbers_of number p) ≡ 64
  unfolding numbers_of
  length_table p = length-map (range 1 64) (λ d. pattern (cond (p d) (number d) 0)) ∙ length_range 1 64

  at_place : (p : ℕ → Bool) (i : ℕ) → i < 64 → get_or (numbers_of number p) i (pattern 0) ≡ pattern (cond (p (1 + i)) (number (1 + i)) 0)
  unfolding numbers_of
  at_place p i h = at_range (λ d. pattern (cond (p d) (number d) 0)) 64 1 i h

  pub number_at : (p : ℕ → Bool) (d : ℕ) → 1 ≤ d → d ≤ 64 → p d ≡ true → number_in (numbers_of number p) d ≡ number d
  unfolding number_in
  number_at p d low high h =
      let back : 1 + (d - 1) ≡ d = omega arith in ap (λ (v : Pattern). v.0) (at_place p (d - 1) (omega arith)) ∙ rw (back, h) refl

  -- ---- storing

  module _ (p : ℕ → Bool) (d : ℕ) (low : 1 ≤ d) (high : d ≤ 64) where
    abbrev with_d : ℕ → Bool
    with_d y = p y || eqb y d

    stored_here : (i : ℕ) → i < 64 → get_or (set (numbers_of number p) (d - 1) (pattern (number d))) i (pattern 0) ≡ get_or (numbers_of number with_d) i (pattern 0)
    stored_here i h =
        by_test (eqb (1 + i) d)
        (λ e. let is : i ≡ d - 1 = omega (arith, eqb-true (1 + i) d e) in
        ap (λ (x : ℕ). get_or (set (numbers_of number p) (d - 1) (pattern (number d))) x (pattern 0)) is
        ∙ (get_or-set_same (numbers_of number p) (d - 1) (pattern (number d)) (pattern 0) (omega (arith, length_table p))
        ∙ sym (at_place with_d i h ∙ rw (or_right (p (1 + i)) e, eqb-true (1 + i) d e) refl)))
        (λ e. get_or-set_other (numbers_of number p) (d - 1) i (pattern (number d)) (pattern 0) (λ q. eqb-false (1 + i) d e (omega arith))
        ∙ (at_place p i h ∙ sym (at_place with_d i h ∙ rw (e, or_false (p (1 + i))) refl)))

    pub store_one : set (numbers_of number p) (d - 1) (pattern (number d)) ≡ numbers_of number (λ y. p y || eqb y d)
    store_one =
        ext_get_or (pattern 0) (set (numbers_of number p) (d - 1) (pattern (number d))) (numbers_of number with_d)
        (length-set (numbers_of number p) (d - 1) (pattern (number d)) ∙ (length_table p ∙ sym (length_table with_d)))
        (λ i h. stored_here i (omega (arith, length-set (numbers_of number p) (d - 1) (pattern (number d)), length_table p)))

  -- the numbers of the drives listed
  pub stored_numbers : (p : ℕ → Bool) (ds : List ℕ) → ((d : ℕ) → elem d ds ≡ true → (1 ≤ d) × (d ≤ 64))
      → stored (numbers_of number p) (map (entry_of number) ds) ≡ numbers_of number (λ y. p y || elem y ds)
  unfolding stored elem any
  stored_numbers p [] bounds = ap (numbers_of number) (fun_ext (λ y. sym (or_false (p y))))
  stored_numbers p (d ∷ ds) bounds =
      let b = bounds d (elem_head d ds) in
      ap (λ (l : List Pattern). stored l (map (entry_of number) ds)) (store_one p d b.0 b.1)
      ∙ (stored_numbers (λ y. p y || eqb y d) ds (λ x e. bounds x (elem_tail x d ds e))
      ∙ ap (numbers_of number) (fun_ext (λ y. or_assoc (p y) (eqb y d) (any (eqb y) ds))))

  -- ---- nothing known

  pub numbers_none : numbers_of number (λ y. false) ≡ replicate 64 (pattern 0)
  unfolding numbers_of range
  numbers_none = refl
