-- What one set more in front of a list adds to what is made of it: to its critical drives, to the drives that are in
-- all, to what is made of the sets that pass a test.
use mathlib.Core.Path.{◌≡◌, sym, ap, ◌∙◌}
use mathlib.Core.Bool.{Bool, true, false}
use mathlib.Core.List.{List, ◌∷◌}
use Prim.Native.Nat.{ℕ}
use lib.Dec.{eqb}
use borrow.Author.Tests.{eq-eqb, ne_eqb}
use Rattle.drive_sets.specs.Bools.Laws.{by_test, cond_true, cond_false}
use Rattle.drive_sets.specs.Lists.{filter}
use Rattle.drive_sets.specs.Lists.Laws.{filter_true, filter_false}
use Rattle.drive_sets.specs.Masks.{union, common, subset, size}
use Rattle.drive_sets.specs.Masks.Laws.{union_subset}
use Rattle.survivor_tables.specs.Hitting.{critical}

module _ (s m x : ℕ) where
  pub critical_more : size (common s m) ≡ 1 → (l : List ℕ) → x ≡ critical l m → union (common s m) x ≡ critical (s ∷ l) m
  unfolding critical
  critical_more e l h = ap (union (common s m)) h ∙ sym (cond_true _ _ (eq-eqb (size (common s m)) 1 e))

  pub critical_skip : (size (common s m) ≡ 1 → ⊥) → (l : List ℕ) → x ≡ critical l m → x ≡ critical (s ∷ l) m
  unfolding critical
  critical_skip e l h = h ∙ sym (cond_false _ _ (ne_eqb (size (common s m)) 1 e))

  -- a drive that is found already adds nothing
  pub critical_had : subset (common s m) x ≡ true → (l : List ℕ) → x ≡ critical l m → x ≡ critical (s ∷ l) m
  unfolding critical
  critical_had e l h =
      by_test (eqb (size (common s m)) 1)
      (λ t. h ∙ (sym (union_subset (common s m) (critical l m) (ap (subset (common s m)) (sym h) ∙ e)) ∙ sym (cond_true _ _ t)))
      (λ t. h ∙ sym (cond_false _ _ t))

-- of the sets that pass a test
module _ (f : List ℕ → ℕ) (p : ℕ → Bool) (s x : ℕ) where
  pub kept_more : p s ≡ true → (y : ℕ) → ((l : List ℕ) → x ≡ f l → y ≡ f (s ∷ l)) → (l : List ℕ) → x ≡ f (filter p l) → y ≡ f (filter p (s ∷ l))
  kept_more e y step l h = step (filter p l) h ∙ sym (ap f (filter_true p s l e))

  pub kept_skip : p s ≡ false → (l : List ℕ) → x ≡ f (filter p l) → x ≡ f (filter p (s ∷ l))
  kept_skip e l h = h ∙ sym (ap f (filter_false p s l e))

  -- whether s passes or not
  pub kept_same : ((l : List ℕ) → x ≡ f l → x ≡ f (s ∷ l)) → (l : List ℕ) → x ≡ f (filter p l) → x ≡ f (filter p (s ∷ l))
  kept_same step l h = by_test (p s) (λ e. kept_more e x step l h) (λ e. kept_skip e l h)
