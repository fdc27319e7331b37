-- The normal form of a list of sets: by mask, without repeats, no set part of another. Each set that it drops holds
-- one that it keeps. Document 01: the normal table drops repeats and each set that holds another.
use Rattle.std.specs.Prelude.{◌≡◌, refl, Bool, true, false, not, ◌&&◌, ◌||◌, List, [], ◌∷◌, ℕ, zero, suc, ◌≤◌, ◌<◌, eqb, leb, length}
use Rattle.std.proofs.Common.{sym, ap, ◌∙◌, zero-le, arith, eqb-true, ne_eqb, leb-true, leb-false}
use Rattle.std.proofs.lemmas.Bool.{eqb-false, not-true}
use Rattle.drive_sets.specs.Bools.Laws.{clash, by_test, false_of, true_of, same_test, and_intro, and_left, and_right, or_and_not}
use Rattle.drive_sets.specs.Lists.{filter, any, elem, distinct, ordered}
use Rattle.drive_sets.specs.Lists.Laws.{elem_some, some_elem, any_elem, any_intro, elem_filter, length_filter, ordered_unique}
use Rattle.drive_sets.specs.Lists.Distinct.{distinct_none, distinct_cons, distinct_filter}
use Rattle.drive_sets.specs.Masks.{subset, size, Below}
use Rattle.drive_sets.specs.Masks.Laws.{subset_refl, subset_trans}
use Rattle.drive_sets.specs.Masks.Sizes.{subset_size}
use Rattle.survivor_tables.specs.Order.{by_mask, drop_repeats, sorted_unless, holds_another, normal}
use Rattle.survivor_tables.specs.Order.Strict.{by_mask_strict}
use Rattle.survivor_tables.specs.Order.Sort.{elem_sort, length_sort, ordered_sort}

-- no set of the list is part of another
abbrev pub Antichain : List ℕ → Type 0
Antichain sets = (s t : ℕ) → elem s sets ≡ true → elem t sets ≡ true → subset s t ≡ true → s ≡ t

-- ---- without repeats

pub elem_drop_repeats : (x : ℕ) (l : List ℕ) → elem x (drop_repeats l) ≡ elem x l
unfolding drop_repeats elem any
elem_drop_repeats x [] = refl
elem_drop_repeats x (s ∷ l) =
    ap (λ (b : Bool). eqb x s || b)
    (elem_filter (λ t. not (eqb t s)) x (drop_repeats l) ∙ ap (λ (b : Bool). b && not (eqb x s)) (elem_drop_repeats x l))
    ∙ or_and_not (eqb x s) (elem x l)

pub distinct_drop_repeats : (l : List ℕ) → distinct (drop_repeats l) ≡ true
unfolding drop_repeats
distinct_drop_repeats [] = distinct_none
distinct_drop_repeats (s ∷ l) =
    distinct_cons s (filter other (drop_repeats l))
    (false_of (elem s (filter other (drop_repeats l))) (λ h.
    eqb-false s s (not-true (eqb s s) (and_right (elem s (drop_repeats l)) (other s) (sym (elem_filter other s (drop_repeats l)) ∙ h))) refl))
    (distinct_filter other (drop_repeats l) (distinct_drop_repeats l))
  where
    other : ℕ → Bool
    other t = not (eqb t s)

pub length_drop_repeats : (l : List ℕ) → length (drop_repeats l) ≤ length l
unfolding drop_repeats
length_drop_repeats [] = zero-le
length_drop_repeats (s ∷ l) = omega (arith, length_filter (λ t. not (eqb t s)) (drop_repeats l), length_drop_repeats l)

-- ---- the sets of which a test does not hold

module _ (p : ℕ → Bool) where
  pub elem_unless : (s : ℕ) (sets : List ℕ) → elem s (sorted_unless p sets) ≡ (elem s sets && not (p s))
  elem_unless s sets =
      elem_sort by_mask s (filter (λ t. not (p t)) (drop_repeats sets))
      ∙ (elem_filter (λ t. not (p t)) s (drop_repeats sets) ∙ ap (λ (b : Bool). b && not (p s)) (elem_drop_repeats s sets))

  pub ordered_unless : (sets : List ℕ) → ordered by_mask (sorted_unless p sets) ≡ true
  ordered_unless sets =
      ordered_sort by_mask by_mask_strict (filter (λ s. not (p s)) (drop_repeats sets))
      (distinct_filter (λ s. not (p s)) (drop_repeats sets) (distinct_drop_repeats sets))

-- ---- the normal form's elements

pub held_another : (sets : List ℕ) (s t : ℕ) → elem t sets ≡ true → subset t s ≡ true → (t ≡ s → ⊥) → holds_another sets s ≡ true
unfolding holds_another
held_another sets s t e p ne = any_intro (λ t. subset t s && not (eqb t s)) sets t e (and_intro p (ap not (ne_eqb t s ne)))

pub another_held : (sets : List ℕ) (s : ℕ) → holds_another sets s ≡ true → (t : ℕ) × (elem t sets ≡ true) × (subset t s ≡ true) × (t ≡ s → ⊥)
unfolding holds_another
another_held sets s h =
    let w = any_elem (λ t. subset t s && not (eqb t s)) sets h in (
      w.0,
      w.1,
      and_left (subset w.0 s) (not (eqb w.0 s)) w.2,
      eqb-false w.0 s (not-true (eqb w.0 s) (and_right (subset w.0 s) (not (eqb w.0 s)) w.2)),
    )

pub elem_normal : (s : ℕ) (sets : List ℕ) → elem s (normal sets) ≡ (elem s sets && not (holds_another sets s))
unfolding normal
elem_normal s sets = elem_unless (holds_another sets) s sets

pub normal_elem : (s : ℕ) (sets : List ℕ) → elem s (normal sets) ≡ true → elem s sets ≡ true
normal_elem s sets h = and_left (elem s sets) (not (holds_another sets s)) (sym (elem_normal s sets) ∙ h)

pub normal_holds_no_other : (s : ℕ) (sets : List ℕ) → elem s (normal sets) ≡ true → holds_another sets s ≡ false
normal_holds_no_other s sets h =
    not-true (holds_another sets s) (and_right (elem s sets) (not (holds_another sets s)) (sym (elem_normal s sets) ∙ h))

pub elem_normal_intro : (s : ℕ) (sets : List ℕ) → elem s sets ≡ true → holds_another sets s ≡ false → elem s (normal sets) ≡ true
elem_normal_intro s sets p q = elem_normal s sets ∙ and_intro p (ap not q)

-- ---- its shape

pub ordered_normal : (sets : List ℕ) → ordered by_mask (normal sets) ≡ true
unfolding normal
ordered_normal sets = ordered_unless (holds_another sets) sets

pub antichain_normal : (sets : List ℕ) → Antichain (normal sets)
antichain_normal sets s t p q e =
    eqb-true s t (true_of (eqb s t) (λ ne.
    clash (held_another sets t s (normal_elem s sets p) e (eqb-false s t ne)) (normal_holds_no_other t sets q)))

pub length_normal : (sets : List ℕ) → length (normal sets) ≤ length sets
unfolding normal
length_normal sets =
    omega (
      arith,
      length_sort by_mask (filter (λ s. not (holds_another sets s)) (drop_repeats sets)),
      length_filter (λ s. not (holds_another sets s)) (drop_repeats sets),
      length_drop_repeats sets,
    )

-- a list in this shape is its own normal form
pub normal_fixed : (sets : List ℕ) → ordered by_mask sets ≡ true → Antichain sets → normal sets ≡ sets
normal_fixed sets o antichain =
    ordered_unique by_mask by_mask_strict.asym (normal sets) sets (ordered_normal sets) o
    (λ s. same_test (elem s (normal sets)) (elem s sets) (normal_elem s sets)
    (λ e. elem_normal_intro s sets e (false_of (holds_another sets s) (λ h. let t = another_held sets s h in t.3 (antichain t.0 s t.1 e t.2)))))

pub normal_idempotent : (sets : List ℕ) → normal (normal sets) ≡ normal sets
normal_idempotent sets = normal_fixed (normal sets) (ordered_normal sets) (antichain_normal sets)

-- ---- what it keeps

module _ (sets : List ℕ) (small : Below 64 sets) where
  smaller : (s t : ℕ) → elem s sets ≡ true → subset t s ≡ true → (t ≡ s → ⊥) → size t < size s
  smaller s t e p ne =
      by_test (leb (size s) (size t))
      (λ h. absurd (ne (subset_size t s (small s e) p (leb-true (size s) (size t) h))))
      (λ h. leb-false (size s) (size t) h)

  -- from s down to a set that it holds and that holds no other, in less than k steps
  down : (k s : ℕ) → size s < k → elem s sets ≡ true → (t : ℕ) × (elem t (normal sets) ≡ true) × (subset t s ≡ true)
  down zero s lt e = absurd (omega arith)
  down (suc k) s lt e =
      by_test (holds_another sets s)
      (λ h. let t = another_held sets s h in
      let u = down k t.0 (omega (arith, smaller s t.0 e t.2 t.3)) t.1 in
      (u.0, u.1, subset_trans 64 u.0 t.0 s (small u.0 (normal_elem u.0 sets u.1)) u.2 t.2))
      (λ h. (s, elem_normal_intro s sets e h, subset_refl s))

  pub holds_normal : (s : ℕ) → elem s sets ≡ true → (t : ℕ) × (elem t (normal sets) ≡ true) × (subset t s ≡ true)
  holds_normal s e = down (suc (size s)) s (omega arith) e

  pub normal_some : 1 ≤ length sets → 1 ≤ length (normal sets)
  normal_some h = let w = some_elem sets h in let u = holds_normal w.0 w.1 in elem_some u.0 (normal sets) u.1
