-- The rests of the frame: the rest of the rest is the mask itself, what is part of another has the larger rest, and a
-- list of masks that rise has rests that rise.
use Rattle.std.specs.Prelude.{◌≡◌, Bool, false, not, ℕ, ◌+◌, ◌^◌, ◌≤◌, ◌<◌, length}
use Rattle.std.proofs.Math.Path.{refl, ap₂}
use Rattle.std.proofs.Common.{sym, ap, ◌∙◌, ⊎_elim, arith, length-append}
use Rattle.std.proofs.Math.Bool.{true}
use mathlib.Core.List.{List, [], ◌∷◌, ◌++◌, append-nil, append_assoc}
use Rattle.std.proofs.Math.Pow.{pow_pos}
use borrow.Author.Tests.{lt-ltb, ltb-true}
use Rattle.drive_sets.specs.Bools.Laws.{clash, and_left, and_right}
use Rattle.drive_sets.specs.Lists.{all, elem, ordered}
use Rattle.drive_sets.specs.Lists.Laws.{elem_head, elem_tail, elem_cases, elem_none, elem_one, elem_append_left, elem_append_right, elem_append_cases, all_elem, ordered_append}
use Rattle.drive_sets.specs.Masks.{full, common, minus, outside, subset, Below}
use Rattle.drive_sets.specs.Masks.Laws.{full_is, subset_full, meets_sym}
use Rattle.drive_sets.specs.Masks.Outside.{outside_lt, subset_outside, meets_outside}
use Rattle.drive_sets.specs.Masks.Sizes.{common_subset}
use Rattle.survivor_tables.specs.Order.{by_mask}
use Rattle.fault_lists.specs.FaultLists.{rests}

not_not : (b : Bool) → not (not b) ≡ b
not_not true = refl
not_not false = refl

-- ---- the rest for one mask

module _ (n : ℕ) (frame : n ≤ 64) where
  -- as numbers the two make up the frame
  pub rest_number : (m : ℕ) → m < 2 ^ n → outside n m + m ≡ full n
  unfolding outside minus common
  rest_number m lt = omega (arith, common_subset m (full n) (subset_full n m frame lt), full_is n frame, pow_pos n)

  pub rest_rest : (m : ℕ) → m < 2 ^ n → outside n (outside n m) ≡ m
  rest_rest m lt = omega (arith, rest_number m lt, rest_number (outside n m) (outside_lt n m))

  pub rest_same : (a b : ℕ) → a < 2 ^ n → b < 2 ^ n → outside n a ≡ outside n b → a ≡ b
  rest_same a b lt lt' e = omega (arith, rest_number a lt, rest_number b lt', e)

  -- the larger has the smaller rest
  pub rest_falls : (a b : ℕ) → a < 2 ^ n → b < 2 ^ n → a < b → outside n b < outside n a
  rest_falls a b lt lt' less = omega (arith, rest_number a lt, rest_number b lt', less)

  -- and so by inclusion
  pub rest_subset : (a b : ℕ) → a < 2 ^ n → subset (outside n b) (outside n a) ≡ subset a b
  rest_subset a b lt =
      subset_outside n (outside n b) a frame (outside_lt n b)
      ∙ (ap not (meets_sym (outside n b) a ∙ meets_outside n a b frame lt) ∙ not_not (subset a b))

-- ---- the rests for a list

pub length_rests : (n : ℕ) (l : List ℕ) → length (rests n l) ≡ length l
unfolding rests
length_rests n [] = refl
length_rests n (m ∷ l) = length-append (rests n l) (outside n m ∷ []) ∙ omega (arith, length_rests n l)

pub elem_rests : (n m : ℕ) (l : List ℕ) → elem m l ≡ true → elem (outside n m) (rests n l) ≡ true
unfolding rests
elem_rests n m [] e = absurd (clash e (elem_none m))
elem_rests n m (x ∷ l) e =
    ⊎_elim
    (λ same. elem_append_right (outside n m) (rests n l) (outside n x ∷ []) (ap (λ (y : ℕ). elem (outside n m) (outside n y ∷ [])) (sym same) ∙ elem_head (outside n m) []))
    (λ later. elem_append_left (outside n m) (rests n l) (outside n x ∷ []) (elem_rests n m l later))
    (elem_cases m x l e)

pub rests_elem : (n x : ℕ) (l : List ℕ) → elem x (rests n l) ≡ true → (m : ℕ) × (elem m l ≡ true) × (x ≡ outside n m)
unfolding rests
rests_elem n x [] e = absurd (clash e (elem_none x))
rests_elem n x (m ∷ l) e =
    ⊎_elim
    (λ before. let w = rests_elem n x l before in (w.0, elem_tail w.0 m l w.1, w.2))
    (λ last. (m, elem_head m l, elem_one x (outside n m) last))
    (elem_append_cases x (rests n l) (outside n m ∷ []) e)

pub rests_below : (n : ℕ) (l : List ℕ) → Below n (rests n l)
rests_below n l x e = let w = rests_elem n x l e in omega (arith, w.2, outside_lt n w.0)

pub rests_append : (n : ℕ) (l k : List ℕ) → rests n (l ++ k) ≡ rests n k ++ rests n l
unfolding rests
rests_append n [] k = sym (append-nil (rests n k))
rests_append n (m ∷ l) k = ap (λ (r : List ℕ). r ++ (outside n m ∷ [])) (rests_append n l k) ∙ append_assoc (rests n k) (rests n l) (outside n m ∷ [])

module _ (n : ℕ) (frame : n ≤ 64) where
  pub rests_rests : (l : List ℕ) → Below n l → rests n (rests n l) ≡ l
  unfolding rests
  rests_rests [] below = refl
  rests_rests (m ∷ l) below =
      rests_append n (rests n l) (outside n m ∷ [])
      ∙ ap₂ (λ (x : ℕ) (r : List ℕ). x ∷ r) (rest_rest n frame m (below m (elem_head m l))) (rests_rests l (λ s e. below s (elem_tail s m l e)))

  pub rests_rising : (l : List ℕ) → Below n l → ordered by_mask l ≡ true → ordered by_mask (rests n l) ≡ true
  unfolding rests ordered all by_mask
  rests_rising [] below o = refl
  rests_rising (m ∷ l) below o =
      ordered_append by_mask (rests n l) (outside n m ∷ []) (rests_rising l (λ s e. below s (elem_tail s m l e)) (and_right (all (by_mask m) l) (ordered by_mask l) o)) refl
      (λ x y e f. let w = rests_elem n x l e in less x y w.0 w.1 w.2 (elem_one y (outside n m) f))
    where
      less : (x y s : ℕ) → elem s l ≡ true → x ≡ outside n s → y ≡ outside n m → by_mask x y ≡ true
      less x y s e p q =
          let below_s = below s (elem_tail s m l e) in
          let falls = rest_falls n frame m s (below m (elem_head m l)) below_s (ltb-true m s (all_elem (by_mask m) l s (and_left (all (by_mask m) l) (ordered by_mask l) o) e)) in
          lt-ltb x y (omega (arith, p, q, falls))
