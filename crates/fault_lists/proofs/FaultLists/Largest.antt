-- The largest groups of a fault list: those that lie within no other. By mask rising they are the rests of the normal
-- table of the survivor sets.
use Rattle.std.specs.Prelude.{◌≡◌, true, not, ◌&&◌, List, ℕ, ◌≤◌, eqb}
use Rattle.std.proofs.Common.{sym, ap, ◌∙◌, ne_eqb}
use Rattle.std.proofs.lemmas.Bool.{eqb-false, not-true}
use Rattle.drive_sets.specs.Bools.Laws.{clash, false_of, same_test, and_intro, and_left, and_right}
use Rattle.drive_sets.specs.Lists.{elem, ordered}
use Rattle.drive_sets.specs.Lists.Laws.{any_elem, any_intro, ordered_unique}
use Rattle.drive_sets.specs.Masks.{outside, subset, Below}
use Rattle.survivor_tables.specs.Order.{by_mask, holds_another, normal}
use Rattle.survivor_tables.specs.Order.Strict.{by_mask_strict}
use Rattle.survivor_tables.specs.Order.Normal.{elem_unless, ordered_unless, held_another, another_held, normal_elem, normal_holds_no_other, elem_normal_intro, ordered_normal}
use Rattle.fault_lists.specs.FaultLists.{rests, within_another, largest}
use Rattle.fault_lists.specs.FaultLists.Rests.{rest_rest, rest_same, rest_subset, elem_rests, rests_elem, rests_below, rests_rests, rests_rising}

-- ---- which groups these are

lies_within : (groups : List ℕ) (g h : ℕ) → elem h groups ≡ true → subset g h ≡ true → (h ≡ g → ⊥) → within_another groups g ≡ true
unfolding within_another
lies_within groups g h e p ne = any_intro (λ h. subset g h && not (eqb h g)) groups h e (and_intro p (ap not (ne_eqb h g ne)))

another_around : (groups : List ℕ) (g : ℕ) → within_another groups g ≡ true → (h : ℕ) × (elem h groups ≡ true) × (subset g h ≡ true) × (h ≡ g → ⊥)
unfolding within_another
another_around groups g t =
    let w = any_elem (λ h. subset g h && not (eqb h g)) groups t in (
      w.0,
      w.1,
      and_left (subset g w.0) (not (eqb w.0 g)) w.2,
      eqb-false w.0 g (not-true (eqb w.0 g) (and_right (subset g w.0) (not (eqb w.0 g)) w.2)),
    )

module _ (groups : List ℕ) (g : ℕ) where
  is_largest : elem g (largest groups) ≡ (elem g groups && not (within_another groups g))
  unfolding largest
  is_largest = elem_unless (within_another groups) g groups

  pub largest_elem : elem g (largest groups) ≡ true → elem g groups ≡ true
  largest_elem e = and_left (elem g groups) (not (within_another groups g)) (sym is_largest ∙ e)

  -- no other of the groups holds it
  pub largest_alone : elem g (largest groups) ≡ true → (h : ℕ) → elem h groups ≡ true → subset g h ≡ true → (h ≡ g → ⊥) → ⊥
  largest_alone e h f p ne =
      clash (lies_within groups g h f p ne) (not-true (within_another groups g) (and_right (elem g groups) (not (within_another groups g)) (sym is_largest ∙ e)))

  pub alone_largest : elem g groups ≡ true → ((h : ℕ) → elem h groups ≡ true → subset g h ≡ true → (h ≡ g → ⊥) → ⊥) → elem g (largest groups) ≡ true
  alone_largest e alone =
      is_largest ∙ and_intro e (ap not (false_of (within_another groups g) (λ t. let w = another_around groups g t in alone w.0 w.1 w.2 w.3)))

pub largest_rising : (groups : List ℕ) → ordered by_mask (largest groups) ≡ true
unfolding largest
largest_rising groups = ordered_unless (within_another groups) groups

-- ---- they are the rests of the normal table

module _ (n : ℕ) (frame : n ≤ 64) where
  module _ (groups : List ℕ) (below : Below n groups) where
    largest_rest : (g : ℕ) → elem g (largest groups) ≡ true → elem (outside n g) (normal (rests n groups)) ≡ true
    largest_rest g e =
        let own = largest_elem groups g e in
        elem_normal_intro (outside n g) (rests n groups) (elem_rests n g groups own) (false_of (holds_another (rests n groups) (outside n g)) (λ t.
        let s = another_held (rests n groups) (outside n g) t in
        let h = rests_elem n s.0 groups s.1 in
        largest_alone groups g e h.0 h.1
        (sym (rest_subset n frame g h.0 (below g own)) ∙ (ap (λ (x : ℕ). subset x (outside n g)) (sym h.2) ∙ s.2))
        (λ same. s.3 (h.2 ∙ ap (outside n) same))))

    rest_largest : (s : ℕ) → elem s (normal (rests n groups)) ≡ true → elem (outside n s) (largest groups) ≡ true
    rest_largest s e =
        let own = rests_elem n s groups (normal_elem s (rests n groups) e) in
        let g = own.0 in
        let is : outside n s ≡ g = ap (outside n) own.2 ∙ rest_rest n frame g (below g own.1) in
        ap (λ (x : ℕ). elem x (largest groups)) is
        ∙ alone_largest groups g own.1 (λ h f p ne.
        clash
        (held_another (rests n groups) s (outside n h) (elem_rests n h groups f)
        (ap (subset (outside n h)) own.2 ∙ (rest_subset n frame g h (below g own.1) ∙ p))
        (λ same. ne (rest_same n frame h g (below h f) (below g own.1) (same ∙ own.2))))
        (normal_holds_no_other s (rests n groups) e))

    pub largest_rests : largest groups ≡ rests n (normal (rests n groups))
    largest_rests =
        ordered_unique by_mask by_mask_strict.asym (largest groups) (rests n table) (largest_rising groups) (rests_rising n frame table inside (ordered_normal (rests n groups)))
        (λ g. same_test (elem g (largest groups)) (elem g (rests n table))
        (λ e. ap (λ (x : ℕ). elem x (rests n table)) (sym (rest_rest n frame g (below g (largest_elem groups g e)))) ∙ elem_rests n (outside n g) table (largest_rest g e))
        (λ e. let s = rests_elem n g table e in ap (λ (x : ℕ). elem x (largest groups)) s.2 ∙ rest_largest s.0 s.1))
      where
        table : List ℕ
        table = normal (rests n groups)

        inside : Below n table
        inside s e = rests_below n groups s (normal_elem s (rests n groups) e)

  -- of the rests of a table they are the rests of its normal table
  pub rests_largest : (sets : List ℕ) → Below n sets → largest (rests n sets) ≡ rests n (normal sets)
  rests_largest sets below = largest_rests (rests n sets) (rests_below n sets) ∙ ap (λ (l : List ℕ). rests n (normal l)) (rests_rests n frame sets below)
