-- Laws of lists without repeats: two such lists one after the other, what is kept of one, and ordered lists.
use Rattle.std.specs.Prelude.{◌≡◌, refl, Bool, true, false, not, ℕ}
use Rattle.std.proofs.Common.{sym, ap, ◌∙◌, ⊎_elim}
use mathlib.Core.List.{List, [], ◌∷◌, ◌++◌}
use Rattle.std.proofs.lemmas.Bool.{not-true}
use Rattle.drive_sets.specs.Bools.Laws.{clash, by_test, false_of, and_intro, and_left, and_right}
use Rattle.drive_sets.specs.Lists.{filter, all, elem, distinct, ordered}
use Rattle.drive_sets.specs.Lists.Laws.{elem_head, elem_tail, elem_append_cases, all_elem, filter_true, filter_false, elem_filter}

pub distinct_none : distinct [] ≡ true
unfolding distinct
distinct_none = refl

pub distinct_cons : (x : ℕ) (l : List ℕ) → elem x l ≡ false → distinct l ≡ true → distinct (x ∷ l) ≡ true
unfolding distinct
distinct_cons x l p q = and_intro (ap not p) q

pub distinct_head : (x : ℕ) (l : List ℕ) → distinct (x ∷ l) ≡ true → elem x l ≡ false
unfolding distinct
distinct_head x l h = not-true (elem x l) (and_left (not (elem x l)) (distinct l) h)

pub distinct_tail : (x : ℕ) (l : List ℕ) → distinct (x ∷ l) ≡ true → distinct l ≡ true
unfolding distinct
distinct_tail x l h = and_right (not (elem x l)) (distinct l) h

pub distinct_filter : (p : ℕ → Bool) (l : List ℕ) → distinct l ≡ true → distinct (filter p l) ≡ true
unfolding filter
distinct_filter p [] h = h
distinct_filter p (x ∷ l) h =
    let rest = distinct_filter p l (distinct_tail x l h) in
    by_test (p x)
    (λ e. ap distinct (filter_true p x l e)
    ∙ distinct_cons x (filter p l) (false_of (elem x (filter p l)) (λ q.
    clash (and_left (elem x l) (p x) (sym (elem_filter p x l) ∙ q)) (distinct_head x l h))) rest)
    (λ e. ap distinct (filter_false p x l e) ∙ rest)

pub distinct_append : (l m : List ℕ) → distinct l ≡ true → distinct m ≡ true → ((x : ℕ) → elem x l ≡ true → elem x m ≡ true → ⊥) → distinct (l ++ m) ≡ true
distinct_append [] m p q f = q
distinct_append (x ∷ l) m p q f =
    distinct_cons x (l ++ m)
    (false_of (elem x (l ++ m)) (λ h. ⊎_elim (λ e. clash e (distinct_head x l p)) (λ e. f x (elem_head x l) e) (elem_append_cases x l m h)))
    (distinct_append l m (distinct_tail x l p) q (λ y h. f y (elem_tail y x l h)))

module _ (before : ℕ → ℕ → Bool) (irr : (x : ℕ) → before x x ≡ true → ⊥) where
  -- what stands before all of a list is not in it
  pub before_all_not_elem : (x : ℕ) (l : List ℕ) → all (before x) l ≡ true → elem x l ≡ false
  before_all_not_elem x l h = false_of (elem x l) (λ e. irr x (all_elem (before x) l x h e))

  pub ordered_distinct : (l : List ℕ) → ordered before l ≡ true → distinct l ≡ true
  unfolding ordered
  ordered_distinct [] h = distinct_none
  ordered_distinct (x ∷ l) h =
      distinct_cons x l (before_all_not_elem x l (and_left (all (before x) l) (ordered before l) h))
      (ordered_distinct l (and_right (all (before x) l) (ordered before l) h))
