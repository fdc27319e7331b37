-- The elements of a list by their places, of a list's image under a function, and a list without one of its elements.
use Rattle.std.specs.Prelude.{◌≡◌, refl, Bool, true, ◌⊎◌, List, [], ◌∷◌, map, ℕ, zero, suc, ◌+◌, ◌<◌, length, get_or, set}
use Rattle.std.proofs.Common.{sym, ap, ap₂, ◌∙◌, subst, inl, inr, ⊎_elim, zero-le, suc-le-suc, add-zero, arith}
use Rattle.drive_sets.specs.Bools.Laws.{clash, and_intro, and_left, and_right}
use Rattle.drive_sets.specs.Lists.{range, all, elem, ordered}
use Rattle.drive_sets.specs.Lists.Laws.{elem_head, elem_tail, elem_cases, elem_none, all_elem, all_intro}

-- ---- by place

pub get_or_elem : (l : List ℕ) (i : ℕ) → i < length l → elem (get_or l i 0) l ≡ true
get_or_elem [] i h = absurd (omega arith)
get_or_elem (x ∷ l) zero h = elem_head x l
get_or_elem (x ∷ l) (suc i) h = elem_tail (get_or l i 0) x l (get_or_elem l i (omega arith))

pub elem_get_or : (x : ℕ) (l : List ℕ) → elem x l ≡ true → (i : ℕ) × (i < length l) × (get_or l i 0 ≡ x)
elem_get_or x [] e = absurd (clash e (elem_none x))
elem_get_or x (y ∷ l) e =
    ⊎_elim (λ q. (0, suc-le-suc zero-le, sym q)) (λ q. let w = elem_get_or x l q in (suc w.0, suc-le-suc w.1, w.2)) (elem_cases x y l e)

-- an element of a list with one place changed
pub elem_set : (x : ℕ) (l : List ℕ) (i v : ℕ) → elem x (set l i v) ≡ true → (x ≡ v) ⊎ (elem x l ≡ true)
elem_set x [] i v e = absurd (clash e (elem_none x))
elem_set x (y ∷ l) zero v e = ⊎_elim (λ q. inl q) (λ q. inr (elem_tail x y l q)) (elem_cases x v l e)
elem_set x (y ∷ l) (suc i) v e =
    ⊎_elim
    (λ q. inr (ap (λ (z : ℕ). elem z (y ∷ l)) q ∙ elem_head y l))
    (λ q. ⊎_elim (λ h. inl h) (λ h. inr (elem_tail x y l h)) (elem_set x l i v q))
    (elem_cases x y (set l i v) e)

-- ---- the image under a function

module _ (f : ℕ → ℕ) where
  pub elem_map : (x : ℕ) (l : List ℕ) → elem x l ≡ true → elem (f x) (map f l) ≡ true
  elem_map x [] e = absurd (clash e (elem_none x))
  elem_map x (y ∷ l) e =
      ⊎_elim
      (λ q. subst (λ (z : ℕ). elem z (map f (y ∷ l)) ≡ true) (ap f (sym q)) (elem_head (f y) (map f l)))
      (λ q. elem_tail (f x) (f y) (map f l) (elem_map x l q))
      (elem_cases x y l e)

  pub map_elem : (y : ℕ) (l : List ℕ) → elem y (map f l) ≡ true → (x : ℕ) × (elem x l ≡ true) × (y ≡ f x)
  map_elem y [] e = absurd (clash e (elem_none y))
  map_elem y (x ∷ l) e =
      ⊎_elim
      (λ q. (x, elem_head x l, q))
      (λ q. let w = map_elem y l q in (w.0, elem_tail w.0 x l w.1, w.2))
      (elem_cases y (f x) (map f l) e)

  pub get_or_map : (l : List ℕ) (i : ℕ) → i < length l → get_or (map f l) i 0 ≡ f (get_or l i 0)
  get_or_map [] i h = absurd (omega arith)
  get_or_map (x ∷ l) zero h = refl
  get_or_map (x ∷ l) (suc i) h = get_or_map l i (omega arith)

-- functions that agree on the list have the same image
module _ {A : Type 0} where
  pub map_same : (f g : ℕ → A) (l : List ℕ) → ((x : ℕ) → elem x l ≡ true → f x ≡ g x) → map f l ≡ map g l
  map_same f g [] same = refl
  map_same f g (x ∷ l) same = ap₂ (λ (y : A) (r : List A). y ∷ r) (same x (elem_head x l)) (map_same f g l (λ y e. same y (elem_tail y x l e)))

pub length_range : (a k : ℕ) → length (range a k) ≡ k
unfolding range
length_range a zero = refl
length_range a (suc k) = ap suc (length_range (suc a) k)

-- the list of the values of f from a on is the image of a range
pub range_image : (f : ℕ → ℕ) (l : List ℕ) (a : ℕ) → ((i : ℕ) → i < length l → get_or l i 0 ≡ f (a + i)) → l ≡ map f (range a (length l))
unfolding range
range_image f [] a at = refl
range_image f (x ∷ l) a at =
    ap₂ (λ (y : ℕ) (r : List ℕ). y ∷ r)
    (at 0 (omega arith) ∙ ap f (add-zero a))
    (range_image f l (suc a) (λ i h. at (suc i) (omega arith) ∙ ap f (add_suc_left a i)))
  where
    add_suc_left : (a i : ℕ) → a + suc i ≡ suc a + i
    add_suc_left a i = omega arith

-- ---- without one element

-- `rest` is the list without one occurrence of x
pub record WithoutOne (x : ℕ) (l rest : List ℕ) : Type 0 where
  pub shorter : length l ≡ suc (length rest)
  pub kept : (y : ℕ) → elem y rest ≡ true → elem y l ≡ true
  pub others : (y : ℕ) → elem y l ≡ true → (y ≡ x) ⊎ (elem y rest ≡ true)

pub without_one : (x : ℕ) (l : List ℕ) → elem x l ≡ true → (rest : List ℕ) × WithoutOne x l rest
without_one x [] e = absurd (clash e (elem_none x))
without_one x (z ∷ l) e = ⊎_elim (λ q. (l, first q)) (λ q. let w = without_one x l q in (z ∷ w.0, later w.0 w.1)) (elem_cases x z l e)
  where
    first : x ≡ z → WithoutOne x (z ∷ l) l
    first q = record {
      shorter = refl;
      kept = λ y i. elem_tail y z l i;
      others = λ y i. ⊎_elim (λ p. inl (p ∙ sym q)) (λ p. inr p) (elem_cases y z l i);
    }

    later : (rest : List ℕ) → WithoutOne x l rest → WithoutOne x (z ∷ l) (z ∷ rest)
    later rest w = record {
      shorter = ap suc w.shorter;
      kept = λ y i. ⊎_elim (λ p. subst (λ (a : ℕ). elem a (z ∷ l) ≡ true) (sym p) (elem_head z l)) (λ p. elem_tail y z l (w.kept y p)) (elem_cases y z rest i);
      others = λ y i.
          ⊎_elim
          (λ p. inr (subst (λ (a : ℕ). elem a (z ∷ rest) ≡ true) (sym p) (elem_head z rest)))
          (λ p. ⊎_elim (λ o. inl o) (λ o. inr (elem_tail y z rest o)) (w.others y p))
          (elem_cases y z l i);
    }

-- ---- the image of an ordered list under a function that keeps the order

pub ordered_map : (before : ℕ → ℕ → Bool) (f : ℕ → ℕ) (l : List ℕ) → ordered before l ≡ true
    → ((x y : ℕ) → elem x l ≡ true → elem y l ≡ true → before x y ≡ true → before (f x) (f y) ≡ true) → ordered before (map f l) ≡ true
unfolding ordered
ordered_map before f [] p up = refl
ordered_map before f (x ∷ l) p up =
    let first = and_left (all (before x) l) (ordered before l) p in
    and_intro
    (all_intro (before (f x)) (map f l) (λ z h.
    let m = map_elem f z l h in
    rw m.2 (up x m.0 (elem_head x l) (elem_tail m.0 x l m.1) (all_elem (before x) l m.0 first m.1))))
    (ordered_map before f l (and_right (all (before x) l) (ordered before l) p) (λ y z h k. up y z (elem_tail y x l h) (elem_tail z x l k)))
