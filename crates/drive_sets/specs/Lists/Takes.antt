-- First parts of lists: what stands in one stands in the list, and a first part of two lists one after the other that
-- gets into the second has all of the first; what stands at a place of a list is in it. And what is kept by two tests,
-- and kept first.
use Rattle.std.specs.Prelude.{◌≡◌, refl, Bool, true, false, ◌&&◌, List, [], ◌∷◌, ◌++◌, ℕ, zero, suc, ◌<◌, ltb, take, get_or}
use Rattle.std.proofs.Common.{sym, ap, ◌∙◌, subst, ⊎_elim, ltb-true}
use Rattle.drive_sets.specs.Bools.Laws.{clash, by_test, false_of, and_intro, and_left, and_right}
use Rattle.drive_sets.specs.Lists.{filter, all, elem, ordered, distinct}
use Rattle.drive_sets.specs.Lists.Laws.{elem_head, elem_tail, elem_cases, elem_none, all_elem, all_intro, filter_true, filter_false}
use Rattle.drive_sets.specs.Lists.Distinct.{distinct_none, distinct_cons, distinct_head, distinct_tail}

pub elem_take : (x m : ℕ) (l : List ℕ) → elem x (take m l) ≡ true → elem x l ≡ true
elem_take x zero l h = absurd (clash h (elem_none x))
elem_take x (suc m) [] h = h
elem_take x (suc m) (y ∷ l) h =
    ⊎_elim
    (λ e. subst (λ (z : ℕ). elem z (y ∷ l) ≡ true) (sym e) (elem_head y l))
    (λ e. elem_tail x y l (elem_take x m l e))
    (elem_cases x y (take m l) h)

-- a first part with an element that is not in l goes past l
pub take_past : (x y m : ℕ) (l k : List ℕ) → elem x (take m (l ++ k)) ≡ true → elem x l ≡ false → elem y l ≡ true → elem y (take m (l ++ k)) ≡ true
take_past x y m [] k h f g = absurd (clash g (elem_none y))
take_past x y zero (z ∷ l) k h f g = absurd (clash h (elem_none x))
take_past x y (suc m) (z ∷ l) k h f g =
    ⊎_elim
    (λ e. absurd (clash (subst (λ (w : ℕ). elem w (z ∷ l) ≡ true) (sym e) (elem_head z l)) f))
    (λ e. ⊎_elim
    (λ q. subst (λ (w : ℕ). elem w (z ∷ take m (l ++ k)) ≡ true) (sym q) (elem_head z (take m (l ++ k))))
    (λ q. elem_tail y z (take m (l ++ k)) (take_past x y m l k e (false_of (elem x l) (λ t. clash (elem_tail x z l t) f)) q))
    (elem_cases y z l g))
    (elem_cases x z (take m (l ++ k)) h)

pub filter_filter : (p q : ℕ → Bool) (l : List ℕ) → filter p (filter q l) ≡ filter (λ x. q x && p x) l
unfolding filter
filter_filter p q [] = refl
filter_filter p q (x ∷ l) =
    by_test (q x)
    (λ a. by_test (p x)
    (λ b. rw (a, b) (ap (λ (r : List ℕ). x ∷ r) (filter_filter p q l)))
    (λ b. rw (a, b) (filter_filter p q l)))
    (λ a. rw a (filter_filter p q l))

pub ordered_take : (before : ℕ → ℕ → Bool) (m : ℕ) (l : List ℕ) → ordered before l ≡ true → ordered before (take m l) ≡ true
unfolding ordered
ordered_take before zero l h = refl
ordered_take before (suc m) [] h = refl
ordered_take before (suc m) (x ∷ l) h =
    and_intro
    (all_intro (before x) (take m l) (λ y e. all_elem (before x) l y (and_left (all (before x) l) (ordered before l) h) (elem_take y m l e)))
    (ordered_take before m l (and_right (all (before x) l) (ordered before l) h))

pub distinct_take : (m : ℕ) (l : List ℕ) → distinct l ≡ true → distinct (take m l) ≡ true
distinct_take zero l h = distinct_none
distinct_take (suc m) [] h = h
distinct_take (suc m) (x ∷ l) h =
    distinct_cons x (take m l) (false_of (elem x (take m l)) (λ e. clash (elem_take x m l e) (distinct_head x l h))) (distinct_take m l (distinct_tail x l h))

-- of a rising list, the first that passes is the one before which none does
pub first_kept_least : (p : ℕ → Bool) (l : List ℕ) (a : ℕ) → ordered ltb l ≡ true → elem a l ≡ true → p a ≡ true
    → ((x : ℕ) → elem x l ≡ true → x < a → p x ≡ false) → get_or (filter p l) 0 0 ≡ a
unfolding ordered
first_kept_least p [] a o i h f = absurd (clash i (elem_none a))
first_kept_least p (y ∷ l) a o i h f =
    ⊎_elim
    (λ e. ap (λ (k : List ℕ). get_or k 0 0) (filter_true p y l (ap p (sym e) ∙ h)) ∙ sym e)
    (λ e. ap (λ (k : List ℕ). get_or k 0 0) (filter_false p y l (f y (elem_head y l) (ltb-true y a (all_elem (ltb y) l a (and_left (all (ltb y) l) _ o) e))))
    ∙ first_kept_least p l a (and_right (all (ltb y) l) _ o) e h (λ x g. f x (elem_tail x y l g)))
    (elem_cases a y l i)
