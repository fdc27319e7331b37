-- How many elements of a list pass a test: the length of what is kept, with one place changed, under a wider test, and
-- split by a second one.
use Rattle.std.specs.Prelude.{◌≡◌, Bool, true, false, ◌&&◌, length, get_or, set}
use Rattle.std.proofs.Math.Path.{refl}
use Rattle.std.proofs.Common.{sym, ap, ◌∙◌, ⊎_elim, arith}
use Rattle.std.proofs.Math.Bool.{not}
use mathlib.Core.List.{List, [], ◌∷◌}
use Prim.Native.Nat.{ℕ, zero, suc, ◌+◌, ◌≤◌, ◌<◌, zero-le}
use Rattle.std.proofs.lemmas.Bool.{not-true}
use Rattle.drive_sets.specs.Bools.{as_number}
use Rattle.drive_sets.specs.Bools.Laws.{clash, by_test, and_intro, and_left, and_right, true_one, false_zero}
use Rattle.drive_sets.specs.Lists.{filter, all, elem}
use Rattle.drive_sets.specs.Lists.Laws.{elem_head, elem_tail, elem_cases, elem_none, elem_some, elem_filter, filter_true, filter_false}

module _ (p : ℕ → Bool) (x : ℕ) (l : List ℕ) where
  pub length_filter_true : p x ≡ true → length (filter p (x ∷ l)) ≡ suc (length (filter p l))
  length_filter_true e = ap length (filter_true p x l e)

  pub length_filter_false : p x ≡ false → length (filter p (x ∷ l)) ≡ length (filter p l)
  length_filter_false e = ap length (filter_false p x l e)

module _ (p : ℕ → Bool) where
  pub length_filter_cons : (x : ℕ) (l : List ℕ) → length (filter p (x ∷ l)) ≡ length (filter p l) + as_number (p x)
  length_filter_cons x l =
      by_test (p x)
      (λ e. omega (arith, length_filter_true p x l e, true_one e))
      (λ e. omega (arith, length_filter_false p x l e, false_zero e))

  -- with one place changed
  pub length_filter_set : (l : List ℕ) (i v : ℕ) → i < length l → length (filter p (set l i v)) + as_number (p (get_or l i 0)) ≡ length (filter p l) + as_number (p v)
  length_filter_set [] i v h = absurd (omega arith)
  length_filter_set (x ∷ l) zero v h = omega (arith, length_filter_cons v l, length_filter_cons x l)
  length_filter_set (x ∷ l) (suc i) v h =
      omega (arith, length_filter_set l i v (omega arith), length_filter_cons x (set l i v), length_filter_cons x l)

  -- none passes
  pub length_filter_none : (l : List ℕ) → all (λ x. not (p x)) l ≡ true → length (filter p l) ≡ 0
  unfolding filter all
  length_filter_none [] h = refl
  length_filter_none (x ∷ l) h =
      length_filter_false p x l (not-true (p x) (and_left (not (p x)) (all (λ y. not (p y)) l) h)) ∙ length_filter_none l (and_right (not (p x)) (all (λ y. not (p y)) l) h)

  -- an element that passes counts
  pub length_filter_elem : (x : ℕ) (l : List ℕ) → elem x l ≡ true → p x ≡ true → 1 ≤ length (filter p l)
  length_filter_elem x l i e = elem_some x (filter p l) (elem_filter p x l ∙ and_intro i e)

module _ (p q : ℕ → Bool) where
  -- what q keeps more than p stays so with one more element
  filter_one_more : (x : ℕ) (l : List ℕ) (j : ℕ) → (p x ≡ true → q x ≡ true) → j + length (filter p l) ≤ length (filter q l)
      → j + length (filter p (x ∷ l)) ≤ length (filter q (x ∷ l))
  filter_one_more x l j f h =
      by_test (p x)
      (λ a. omega (arith, length_filter_true p x l a, length_filter_true q x l (f a)))
      (λ a. by_test (q x)
      (λ b. omega (arith, length_filter_false p x l a, length_filter_true q x l b))
      (λ b. omega (arith, length_filter_false p x l a, length_filter_false q x l b)))

  -- a wider test keeps no fewer
  pub length_filter_le : (l : List ℕ) → ((x : ℕ) → elem x l ≡ true → p x ≡ true → q x ≡ true) → length (filter p l) ≤ length (filter q l)
  unfolding filter
  length_filter_le [] f = zero-le
  length_filter_le (x ∷ l) f =
      omega (arith, filter_one_more x l 0 (f x (elem_head x l)) (omega (arith, length_filter_le l (λ y h. f y (elem_tail y x l h)))))

  -- and more where some element passes it alone
  pub length_filter_lt : (l : List ℕ) → ((x : ℕ) → elem x l ≡ true → p x ≡ true → q x ≡ true)
      → (y : ℕ) → elem y l ≡ true → p y ≡ false → q y ≡ true → length (filter p l) < length (filter q l)
  length_filter_lt [] f y i a b = absurd (clash i (elem_none y))
  length_filter_lt (x ∷ l) f y i a b =
      ⊎_elim
      (λ e. omega (arith, length_filter_false p x l (ap p (sym e) ∙ a), length_filter_true q x l (ap q (sym e) ∙ b), length_filter_le l (λ z h. f z (elem_tail z x l h))))
      (λ e. omega (arith, filter_one_more x l 1 (f x (elem_head x l)) (omega (arith, length_filter_lt l (λ z h. f z (elem_tail z x l h)) y e a b))))
      (elem_cases y x l i)

  -- a second test splits what the first keeps
  pub length_filter_split : (l : List ℕ) → length (filter p l) ≡ length (filter (λ x. p x && q x) l) + length (filter (λ x. p x && not (q x)) l)
  unfolding filter
  length_filter_split [] = refl
  length_filter_split (x ∷ l) =
      let rest = length_filter_split l in
      by_test (p x)
      (λ a. by_test (q x) (λ b. rw (a, b) (omega arith)) (λ b. rw (a, b) (omega arith)))
      (λ a. rw a rest)
