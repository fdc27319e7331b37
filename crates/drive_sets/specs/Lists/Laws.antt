-- Laws of ranges, of kept elements, of tests over a list, and of ordered lists.
use Rattle.std.specs.Prelude.{◌≡◌, Bool, false, ◌&&◌, ◌||◌, cond, ◌⊎◌, ℕ, zero, suc, ◌+◌, ◌≤◌, ◌<◌, eqb, ltb, length, get_or}
use Rattle.std.proofs.Math.Path.{refl, ap₂}
use Rattle.std.proofs.Common.{sym, ap, ◌∙◌, subst, inl, inr, ⊎_elim, zero-le, suc-le-suc, arith, eqb-true, eq-eqb, lt-ltb}
use Rattle.std.proofs.Math.Bool.{true}
use mathlib.Core.List.{List, [], ◌∷◌, ◌++◌}
use Rattle.std.proofs.lemmas.Bool.{eqb-false}
use Rattle.drive_sets.specs.Bools.Laws.{clash, by_test, false_of, same_test, and_intro, and_left, and_right, and_not, or_left, or_right, or_cases, or_false, cond_true, cond_false}
use Rattle.drive_sets.specs.Lists.{range, filter, all, any, elem, ordered}

-- ---- membership

pub elem_head : (x : ℕ) (l : List ℕ) → elem x (x ∷ l) ≡ true
unfolding elem any
elem_head x l = or_left (any (eqb x) l) (eq-eqb x x refl)

pub elem_tail : (x y : ℕ) (l : List ℕ) → elem x l ≡ true → elem x (y ∷ l) ≡ true
unfolding elem any
elem_tail x y l h = or_right (eqb x y) h

pub elem_cases : (x y : ℕ) (l : List ℕ) → elem x (y ∷ l) ≡ true → (x ≡ y) ⊎ (elem x l ≡ true)
unfolding elem any
elem_cases x y l h = ⊎_elim (λ e. inl (eqb-true x y e)) (λ e. inr e) (or_cases (eqb x y) (any (eqb x) l) h)

pub elem_none : (x : ℕ) → elem x [] ≡ false
unfolding elem any
elem_none x = refl

pub elem_some : (x : ℕ) (l : List ℕ) → elem x l ≡ true → 1 ≤ length l
elem_some x [] h = absurd (clash h (elem_none x))
elem_some x (y ∷ l) h = suc-le-suc zero-le

pub some_elem : (l : List ℕ) → 1 ≤ length l → (x : ℕ) × (elem x l ≡ true)
some_elem [] h = absurd (omega arith)
some_elem (x ∷ l) h = (x, elem_head x l)

pub any_append : (p : ℕ → Bool) (l m : List ℕ) → any p (l ++ m) ≡ (any p l || any p m)
unfolding any
any_append p [] m = refl
any_append p (y ∷ l) m = by_test (p y) (λ e. rw e) (λ e. rw e (any_append p l m))

pub elem_append : (x : ℕ) (l m : List ℕ) → elem x (l ++ m) ≡ (elem x l || elem x m)
unfolding elem
elem_append x l m = any_append (eqb x) l m

pub elem_append_left : (x : ℕ) (l m : List ℕ) → elem x l ≡ true → elem x (l ++ m) ≡ true
elem_append_left x l m h = elem_append x l m ∙ or_left (elem x m) h

pub elem_append_right : (x : ℕ) (l m : List ℕ) → elem x m ≡ true → elem x (l ++ m) ≡ true
elem_append_right x l m h = elem_append x l m ∙ or_right (elem x l) h

pub elem_append_cases : (x : ℕ) (l m : List ℕ) → elem x (l ++ m) ≡ true → (elem x l ≡ true) ⊎ (elem x m ≡ true)
elem_append_cases x l m h = or_cases (elem x l) (elem x m) (sym (elem_append x l m) ∙ h)

pub elem_last : (x : ℕ) (l : List ℕ) (y : ℕ) → elem x (l ++ (y ∷ [])) ≡ (elem x l || eqb x y)
unfolding elem any
elem_last x l y = elem_append x l (y ∷ []) ∙ ap (λ (b : Bool). elem x l || b) (or_false (eqb x y))

pub elem_one : (x y : ℕ) → elem x (y ∷ []) ≡ true → x ≡ y
elem_one x y h = ⊎_elim (λ e. e) (λ e. absurd (clash e (elem_none x))) (elem_cases x y [] h)

-- a list with no element is empty
pub no_elem : (l : List ℕ) → ((x : ℕ) → elem x l ≡ true → ⊥) → l ≡ []
no_elem [] f = refl
no_elem (x ∷ l) f = absurd (f x (elem_head x l))

-- ---- tests of all and of some

pub all_elem : (p : ℕ → Bool) (l : List ℕ) (x : ℕ) → all p l ≡ true → elem x l ≡ true → p x ≡ true
unfolding all
all_elem p [] x h e = absurd (clash e (elem_none x))
all_elem p (y ∷ l) x h e =
    ⊎_elim
    (λ q. ap p q ∙ and_left (p y) (all p l) h)
    (λ q. all_elem p l x (and_right (p y) (all p l) h) q)
    (elem_cases x y l e)

pub all_intro : (p : ℕ → Bool) (l : List ℕ) → ((x : ℕ) → elem x l ≡ true → p x ≡ true) → all p l ≡ true
unfolding all
all_intro p [] f = refl
all_intro p (y ∷ l) f = and_intro (f y (elem_head y l)) (all_intro p l (λ x h. f x (elem_tail x y l h)))

-- where not all pass the test, one fails it
pub all_not : (p : ℕ → Bool) (l : List ℕ) → all p l ≡ false → (x : ℕ) × (elem x l ≡ true) × (p x ≡ false)
unfolding all
all_not p [] h = absurd (clash refl h)
all_not p (y ∷ l) h =
    by_test (p y)
    (λ e. let w = all_not p l (and_not (p y) (all p l) e h) in (w.0, elem_tail w.0 y l w.1, w.2))
    (λ e. (y, elem_head y l, e))

pub all_append : (p : ℕ → Bool) (l m : List ℕ) → all p (l ++ m) ≡ (all p l && all p m)
unfolding all
all_append p [] m = refl
all_append p (y ∷ l) m = by_test (p y) (λ e. rw e (all_append p l m)) (λ e. rw e)

-- lists with the same elements pass the same test of all
pub all_same_elements : (p : ℕ → Bool) (l m : List ℕ) → ((x : ℕ) → elem x l ≡ elem x m) → all p l ≡ all p m
all_same_elements p l m f =
    same_test (all p l) (all p m)
    (λ h. all_intro p m (λ x e. all_elem p l x h (f x ∙ e)))
    (λ h. all_intro p l (λ x e. all_elem p m x h (sym (f x) ∙ e)))

pub any_elem : (p : ℕ → Bool) (l : List ℕ) → any p l ≡ true → (x : ℕ) × (elem x l ≡ true) × (p x ≡ true)
unfolding any
any_elem p [] h = absurd (clash h refl)
any_elem p (y ∷ l) h =
    ⊎_elim
    (λ e. (y, elem_head y l, e))
    (λ e. let w = any_elem p l e in (w.0, elem_tail w.0 y l w.1, w.2))
    (or_cases (p y) (any p l) h)

pub any_intro : (p : ℕ → Bool) (l : List ℕ) (x : ℕ) → elem x l ≡ true → p x ≡ true → any p l ≡ true
unfolding any
any_intro p [] x e h = absurd (clash e (elem_none x))
any_intro p (y ∷ l) x e h =
    ⊎_elim
    (λ q. or_left (any p l) (ap p (sym q) ∙ h))
    (λ q. or_right (p y) (any_intro p l x q h))
    (elem_cases x y l e)

-- where none passes the test, each fails it
pub any_not : (p : ℕ → Bool) (l : List ℕ) (x : ℕ) → any p l ≡ false → elem x l ≡ true → p x ≡ false
any_not p l x h e = false_of (p x) (λ q. clash (any_intro p l x e q) h)

pub any_true : (p : ℕ → Bool) (x : ℕ) (l : List ℕ) → p x ≡ true → any p (x ∷ l) ≡ true
unfolding any
any_true p x l h = or_left (any p l) h

pub any_false : (p : ℕ → Bool) (x : ℕ) (l : List ℕ) → p x ≡ false → any p (x ∷ l) ≡ any p l
unfolding any
any_false p x l h = ap (λ (b : Bool). b || any p l) h

-- ---- kept elements

pub filter_true : (p : ℕ → Bool) (x : ℕ) (l : List ℕ) → p x ≡ true → filter p (x ∷ l) ≡ x ∷ filter p l
unfolding filter
filter_true p x l h = cond_true _ _ h

pub filter_false : (p : ℕ → Bool) (x : ℕ) (l : List ℕ) → p x ≡ false → filter p (x ∷ l) ≡ filter p l
unfolding filter
filter_false p x l h = cond_false _ _ h

-- the first that is kept passes the test
pub first_kept_passes : (p : ℕ → Bool) (l : List ℕ) → any p l ≡ true → p (get_or (filter p l) 0 0) ≡ true
unfolding any
first_kept_passes p [] h = absurd (clash h refl)
first_kept_passes p (x ∷ l) h =
    by_test (p x)
    (λ e. ap (λ (m : List ℕ). p (get_or m 0 0)) (filter_true p x l e) ∙ e)
    (λ e. ap (λ (m : List ℕ). p (get_or m 0 0)) (filter_false p x l e) ∙ first_kept_passes p l (sym (any_false p x l e) ∙ h))

kept_first : (a e c : Bool) → (a ≡ true → c ≡ true) → (a || (e && c)) ≡ ((a || e) && c)
kept_first true e c f = sym (f refl)
kept_first false e c f = refl

dropped_first : (a e c : Bool) → (a ≡ true → c ≡ false) → (e && c) ≡ ((a || e) && c)
dropped_first true true c f = refl
dropped_first true false c f = sym (f refl)
dropped_first false e c f = refl

pub elem_filter : (p : ℕ → Bool) (x : ℕ) (l : List ℕ) → elem x (filter p l) ≡ (elem x l && p x)
unfolding elem any filter
elem_filter p x [] = refl
elem_filter p x (y ∷ l) =
    by_test (p y)
    (λ e. ap (elem x) (filter_true p y l e)
    ∙ (ap (λ (b : Bool). eqb x y || b) (elem_filter p x l)
    ∙ kept_first (eqb x y) (elem x l) (p x) (λ q. ap p (eqb-true x y q) ∙ e)))
    (λ e. ap (elem x) (filter_false p y l e)
    ∙ (elem_filter p x l ∙ dropped_first (eqb x y) (elem x l) (p x) (λ q. ap p (eqb-true x y q) ∙ e)))

-- a test that agrees on the list keeps the same
pub filter_same : (p q : ℕ → Bool) (l : List ℕ) → ((x : ℕ) → elem x l ≡ true → p x ≡ q x) → filter p l ≡ filter q l
unfolding filter
filter_same p q [] f = refl
filter_same p q (x ∷ l) f =
    ap₂ (λ (b : Bool) (r : List ℕ). cond b (x ∷ r) r) (f x (elem_head x l)) (filter_same p q l (λ y h. f y (elem_tail y x l h)))

pub length_filter : (p : ℕ → Bool) (l : List ℕ) → length (filter p l) ≤ length l
unfolding filter
length_filter p [] = zero-le
length_filter p (x ∷ l) =
    by_test (p x)
    (λ e. rw (filter_true p x l e) (suc-le-suc (length_filter p l)))
    (λ e. rw (filter_false p x l e) (omega (arith, length_filter p l)))

-- ---- ranges

pub elem_range : (x a k : ℕ) → elem x (range a k) ≡ true → (a ≤ x) × (x < a + k)
unfolding range
elem_range x a zero h = absurd (clash h (elem_none x))
elem_range x a (suc k) h =
    ⊎_elim (λ e. (omega arith, omega arith)) (λ e. let w = elem_range x (suc a) k e in (omega arith, omega arith)) (elem_cases x a (range (suc a) k) h)

pub range_elem : (x a k : ℕ) → a ≤ x → x < a + k → elem x (range a k) ≡ true
unfolding range
range_elem x a zero p q = absurd (omega arith)
range_elem x a (suc k) p q =
    by_test (eqb x a)
    (λ e. rw (eqb-true x a e) (elem_head a (range (suc a) k)))
    (λ e. elem_tail x a (range (suc a) k) (range_elem x (suc a) k (let n = eqb-false x a e in omega arith) (omega arith)))

-- ---- ordered lists

pub ordered_filter : (before : ℕ → ℕ → Bool) (p : ℕ → Bool) (l : List ℕ) → ordered before l ≡ true → ordered before (filter p l) ≡ true
unfolding ordered filter
ordered_filter before p [] h = refl
ordered_filter before p (x ∷ l) h =
    let first = and_left (all (before x) l) (ordered before l) h in
    let rest = ordered_filter before p l (and_right (all (before x) l) (ordered before l) h) in
    by_test (p x)
    (λ e. ap (ordered before) (filter_true p x l e)
    ∙ and_intro
    (all_intro (before x) (filter p l) (λ y q. all_elem (before x) l y first (and_left (elem y l) (p y) (sym (elem_filter p y l) ∙ q))))
    rest)
    (λ e. ap (ordered before) (filter_false p x l e) ∙ rest)

pub ordered_range : (a k : ℕ) → ordered ltb (range a k) ≡ true
unfolding ordered range
ordered_range a zero = refl
ordered_range a (suc k) =
    and_intro (all_intro (ltb a) (range (suc a) k) (λ x h. let w = elem_range x (suc a) k h in lt-ltb a x w.0)) (ordered_range (suc a) k)

-- one list behind another, each of whose elements stands before its own
pub ordered_append : (before : ℕ → ℕ → Bool) (l m : List ℕ) → ordered before l ≡ true → ordered before m ≡ true
    → ((x y : ℕ) → elem x l ≡ true → elem y m ≡ true → before x y ≡ true) → ordered before (l ++ m) ≡ true
unfolding ordered
ordered_append before [] m p q f = q
ordered_append before (x ∷ l) m p q f =
    and_intro
    (all_append (before x) l m
    ∙ and_intro (and_left (all (before x) l) (ordered before l) p) (all_intro (before x) m (λ y h. f x y (elem_head x l) h)))
    (ordered_append before l m (and_right (all (before x) l) (ordered before l) p) q (λ y z h k. f y z (elem_tail y x l h) k))

-- the first of an ordered list stands before all others
pub ordered_first : (before : ℕ → ℕ → Bool) (l : List ℕ) (x : ℕ) → ordered before l ≡ true → elem x l ≡ true
    → (get_or l 0 0 ≡ x) ⊎ (before (get_or l 0 0) x ≡ true)
unfolding ordered
ordered_first before [] x o e = absurd (clash e (elem_none x))
ordered_first before (y ∷ l) x o e =
    ⊎_elim (λ same. inl (sym same)) (λ later. inr (all_elem (before y) l x (and_left (all (before y) l) (ordered before l) o) later)) (elem_cases x y l e)

-- two ordered lists with the same elements are equal
module _ (before : ℕ → ℕ → Bool) (asym : (x y : ℕ) → before x y ≡ true → before y x ≡ true → ⊥) where
  pub ordered_unique : (l m : List ℕ) → ordered before l ≡ true → ordered before m ≡ true → ((x : ℕ) → elem x l ≡ elem x m) → l ≡ m
  unfolding ordered
  ordered_unique [] [] p q f = refl
  ordered_unique [] (y ∷ m) p q f = absurd (clash (f y ∙ elem_head y m) (elem_none y))
  ordered_unique (x ∷ l) [] p q f = absurd (clash (sym (f x) ∙ elem_head x l) (elem_none x))
  ordered_unique (x ∷ l) (y ∷ m) p q f =
      let head : x ≡ y = same_first in
      ap₂ (λ (z : ℕ) (t : List ℕ). z ∷ t) head (ordered_unique l m (and_right (all (before x) l) (ordered before l) p) (and_right (all (before y) m) (ordered before m) q) (same_rest head))
    where
      after_x : (z : ℕ) → elem z l ≡ true → before x z ≡ true
      after_x z h = all_elem (before x) l z (and_left (all (before x) l) (ordered before l) p) h

      after_y : (z : ℕ) → elem z m ≡ true → before y z ≡ true
      after_y z h = all_elem (before y) m z (and_left (all (before y) m) (ordered before m) q) h

      same_first : x ≡ y
      same_first =
          ⊎_elim (λ e. e)
          (λ e. ⊎_elim (λ d. sym d) (λ d. absurd (asym x y (after_x y d) (after_y x e))) (elem_cases y x l (f y ∙ elem_head y m)))
          (elem_cases x y m (sym (f x) ∙ elem_head x l))

      -- nothing stands before itself
      not_first : (a z : ℕ) → before a z ≡ true → z ≡ a → ⊥
      not_first a z h e = let r = subst (λ (w : ℕ). before a w ≡ true) e h in asym a a r r

      same_rest : x ≡ y → (z : ℕ) → elem z l ≡ elem z m
      same_rest e z =
          same_test (elem z l) (elem z m)
          (λ h. ⊎_elim (λ d. absurd (not_first x z (after_x z h) (d ∙ sym e))) (λ d. d) (elem_cases z y m (sym (f z) ∙ elem_tail z x l h)))
          (λ h. ⊎_elim (λ d. absurd (not_first y z (after_y z h) (d ∙ e))) (λ d. d) (elem_cases z x l (f z ∙ elem_tail z y m h)))
