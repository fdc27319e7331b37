-- The first value that a partial function has on a list: it is the value at some element, and none where there is none
-- anywhere.
use Rattle.std.specs.Prelude.{◌≡◌, true, ℕ}
use Rattle.std.proofs.Math.Path.{refl, ap}
use Rattle.std.proofs.Common.{sym, ◌∙◌, ⊎_elim}
use mathlib.Core.List.{List, [], ◌∷◌}
use Rattle.std.proofs.Math.Option.{Option, none, some, or_else}
use Rattle.drive_sets.specs.Bools.Laws.{clash}
use Rattle.drive_sets.specs.Options.Laws.{by_option, none_some}
use Rattle.drive_sets.specs.Lists.{elem, first_some}
use Rattle.drive_sets.specs.Lists.Laws.{elem_head, elem_tail, elem_cases, elem_none}

module _ (f : ℕ → Option ℕ) where
  -- the clause of the definition, by whether there is a value at the head
  first_here : (x : ℕ) (l : List ℕ) {v : ℕ} → f x ≡ some v → first_some f (x ∷ l) ≡ some v
  unfolding first_some or_else
  first_here x l e = ap (λ o. or_else o (first_some f l)) e

  first_later : (x : ℕ) (l : List ℕ) → f x ≡ none → first_some f (x ∷ l) ≡ first_some f l
  unfolding first_some or_else
  first_later x l e = ap (λ o. or_else o (first_some f l)) e

  pub first_elem : (l : List ℕ) {v : ℕ} → first_some f l ≡ some v → (x : ℕ) × (elem x l ≡ true) × (f x ≡ some v)
  unfolding first_some
  first_elem [] h = absurd (none_some refl h)
  first_elem (x ∷ l) h =
      by_option (f x)
      (λ e. let w = first_elem l (sym (first_later x l e) ∙ h) in (w.0, elem_tail w.0 x l w.1, w.2))
      (λ v e. (x, elem_head x l, e ∙ (sym (first_here x l e) ∙ h)))

  pub first_none : (l : List ℕ) (x : ℕ) → first_some f l ≡ none → elem x l ≡ true → f x ≡ none
  first_none [] x h e = absurd (clash e (elem_none x))
  first_none (y ∷ l) x h e =
      by_option (f y)
      (λ q. ⊎_elim (λ p. ap f p ∙ q) (λ p. first_none l x (sym (first_later y l q) ∙ h) p) (elem_cases x y l e))
      (λ v q. absurd (none_some h (first_here y l q)))
