-- The smallest value of a function on a list: it is the value at some element, it is at most the value at each, and
-- both together make it out. So lists with the same elements have the same one, and so have functions with the same
-- values there.
use Rattle.std.specs.Prelude.{◌≡◌, true, ℕ, ◌≤◌, min, leb}
use Rattle.std.proofs.Math.Path.{refl, ap}
use Rattle.std.proofs.Common.{sym, ◌∙◌, ⊎_elim, le_antisymm, arith}
use mathlib.Core.List.{List, [], ◌∷◌}
use Rattle.std.proofs.Math.Option.{none, some}
use borrow.Author.Tests.{leb-true, leb-false}
use Rattle.drive_sets.specs.Bools.Laws.{clash, by_test}
use Rattle.drive_sets.specs.Options.Laws.{by_option, none_some, same_some}
use Rattle.drive_sets.specs.Lists.{elem, smaller, smallest}
use Rattle.drive_sets.specs.Lists.Laws.{elem_head, elem_tail, elem_cases, elem_none, no_elem}

module _ (f : ℕ → ℕ) where
  -- the clauses of the definition, by whether the rest has a smallest value
  smallest_one : (y : ℕ) (l : List ℕ) → smallest f l ≡ none → smallest f (y ∷ l) ≡ some (f y)
  unfolding smallest smaller
  smallest_one y l e = ap (λ o. some (smaller (f y) o)) e

  smallest_more : (y : ℕ) (l : List ℕ) {u : ℕ} → smallest f l ≡ some u → smallest f (y ∷ l) ≡ some (min (f y) u)
  unfolding smallest smaller
  smallest_more y l e = ap (λ o. some (smaller (f y) o)) e

  -- a list with an element has a smallest value
  pub smallest_some : (l : List ℕ) (x : ℕ) → elem x l ≡ true → (v : ℕ) × (smallest f l ≡ some v)
  unfolding smallest
  smallest_some [] x e = absurd (clash e (elem_none x))
  smallest_some (y ∷ l) x e = (smaller (f y) (smallest f l), refl)

  pub smallest_elem : (l : List ℕ) {v : ℕ} → smallest f l ≡ some v → (x : ℕ) × (elem x l ≡ true) × (v ≡ f x)
  unfolding smallest
  smallest_elem [] h = absurd (none_some refl h)
  smallest_elem (y ∷ l) h =
      by_option (smallest f l)
      (λ e. (y, elem_head y l, same_some h (smallest_one y l e)))
      (λ u e. let w = smallest_elem l e in
      let is = same_some h (smallest_more y l e) in
      by_test (leb (f y) u)
      (λ t. (y, elem_head y l, omega (arith, leb-true (f y) u t)))
      (λ t. (w.0, elem_tail w.0 y l w.1, omega (arith, leb-false (f y) u t))))

  pub smallest_le : (l : List ℕ) {v : ℕ} (x : ℕ) → smallest f l ≡ some v → elem x l ≡ true → v ≤ f x
  smallest_le [] x h e = absurd (clash e (elem_none x))
  smallest_le (y ∷ l) x h e =
      by_option (smallest f l)
      (λ q. let is = same_some h (smallest_one y l q) in
      ⊎_elim (λ p. omega (arith, ap f p)) (λ p. absurd (none_some q (smallest_some l x p).1)) (elem_cases x y l e))
      (λ u q. let is = same_some h (smallest_more y l q) in
      ⊎_elim (λ p. omega (arith, ap f p)) (λ p. omega (arith, smallest_le l x q p)) (elem_cases x y l e))

  -- what is the value at some element and at most the value at each is the smallest
  pub smallest_is : (l : List ℕ) (x : ℕ) → elem x l ≡ true → ((y : ℕ) → elem y l ≡ true → f x ≤ f y) → smallest f l ≡ some (f x)
  smallest_is l x e least =
      let s = smallest_some l x e in
      let w = smallest_elem l s.1 in
      s.1 ∙ ap some (le_antisymm (smallest_le l x s.1 e) (omega (arith, w.2, least w.0 w.1)))

-- the same elements, the same values on them
pub smallest_same : (f g : ℕ → ℕ) (l m : List ℕ) → ((x : ℕ) → elem x l ≡ elem x m) → ((x : ℕ) → elem x l ≡ true → f x ≡ g x)
    → smallest f l ≡ smallest g m
unfolding smallest
smallest_same f g [] m same at = ap (smallest g) (sym (no_elem m (λ x e. clash (same x ∙ e) (elem_none x))))
smallest_same f g (y ∷ l) m same at =
    let s = smallest_some f (y ∷ l) y (elem_head y l) in
    let w = smallest_elem f (y ∷ l) s.1 in
    let x = w.0 in
    s.1 ∙ (ap some (w.2 ∙ at x w.1)
    ∙ sym (smallest_is g m x (sym (same x) ∙ w.1) (λ z e.
    let i = same z ∙ e in omega (arith, w.2, at x w.1, at z i, smallest_le f (y ∷ l) z s.1 i))))
