-- A fault list as a failure model: its largest groups are the fail-prone system that it gives, some drives can fail
-- together exactly if the rest holds a survivor set, and the executions that it tells of are those that the table of
-- its rests describes.
use Rattle.std.specs.Prelude.{◌≡◌, refl, true, not, List, ◌↔◌, ℕ, ◌^◌, ◌≤◌, ◌<◌, eqb}
use Rattle.std.proofs.Common.{sym, ap, ◌∙◌, pow_mono, lt_of_lt_of_le, eqb-true}
use Rattle.std.proofs.lemmas.Bool.{eqb-false, not-true, not-false}
use Rattle.drive_sets.specs.Bools.Laws.{true_of, same_test}
use Rattle.drive_sets.specs.Lists.{any, elem}
use Rattle.drive_sets.specs.Lists.Laws.{any_elem, any_intro}
use Rattle.drive_sets.specs.Masks.{single, minus, outside, subset, meets, Below}
use Rattle.drive_sets.specs.Masks.Laws.{minus_lt, subset_refl, subset_trans, subset_antisym, subset_lt, meets_sym}
use Rattle.drive_sets.specs.Masks.Outside.{outside_lt, meets_outside}
use Rattle.survivor_tables.specs.Executions.{Core, Describes}
use Rattle.survivor_tables.specs.Order.{normal}
use Rattle.survivor_tables.specs.Order.Normal.{normal_elem, holds_normal}
use Rattle.fault_lists.specs.FaultLists.{rests, largest}
use Rattle.fault_lists.specs.FaultLists.Rests.{rest_subset, elem_rests, rests_elem}
use Rattle.fault_lists.proofs.FaultLists.Largest.{largest_elem, largest_alone, alone_largest}
use Rattle.fault_lists.specs.FailureModels.{Model, Maximal, FailProne, CoreFor, CanFail, RestHolds, FailsAs}

module _ (n : ℕ) (groups : List ℕ) (below : Below n groups) where
  -- ---- the fail-prone system

  group_can : (g : ℕ) → elem g groups ≡ true → CanFail groups g
  group_can g e = any_intro (subset g) groups g e (subset_refl g)

  part_can : (f part : ℕ) → CanFail groups f → subset part f ≡ true → CanFail groups part
  part_can f part can p =
      let g = any_elem (subset f) groups can in
      let lt = subset_lt n part f p (subset_lt n f g.0 g.2 (below g.0 g.1)) in
      any_intro (subset part) groups g.0 g.1 (subset_trans n part f g.0 lt p g.2)

  largest_maximal : (a : ℕ) → elem a (largest groups) ≡ true → Maximal (CanFail groups) a
  largest_maximal a e = record {
    can_fail = group_can a (largest_elem groups a e);
    no_larger = λ f can p.
        let g = any_elem (subset f) groups can in
        let around = subset_trans n a f g.0 (below a (largest_elem groups a e)) p g.2 in
        let same = eqb-true g.0 a (true_of (eqb g.0 a) (λ ne. largest_alone groups a e g.0 g.1 around (eqb-false g.0 a ne))) in
        subset_antisym f a (ap (subset f) (sym same) ∙ g.2) p;
  }

  maximal_largest : (a : ℕ) → Maximal (CanFail groups) a → elem a (largest groups) ≡ true
  maximal_largest a m =
      let g = any_elem (subset a) groups m.can_fail in
      let same = m.no_larger g.0 (group_can g.0 g.1) g.2 in
      alone_largest groups a (ap (λ (x : ℕ). elem x groups) (sym same) ∙ g.1) (λ h e p ne. ne (m.no_larger h (group_can h e) p))

  pub fail_prone : FailProne (CanFail groups) (largest groups)
  fail_prone = record { monotone = part_can; maximal = λ a. (largest_maximal a, maximal_largest a) }

  -- the sets that can fail are executions of which the list tells
  pub model_told : FailsAs {Φ = (f : ℕ) × CanFail groups f} n groups (λ φ. φ.0)
  model_told = record {
    within = λ φ. let g = any_elem (subset φ.0) groups φ.1 in subset_lt n φ.0 g.0 g.2 (below g.0 g.1);
    in_group = λ φ. φ.1;
    occurs = λ g e. ((g, group_can g e), refl);
  }

  -- ---- the rest holds a survivor set

  module _ (frame : n ≤ 64) where
    pub can_fail_rest : (f : ℕ) → f < 2 ^ n → any (subset f) groups ≡ any (λ s. subset s (outside n f)) (rests n groups)
    can_fail_rest f lt =
        same_test (any (subset f) groups) (any (λ s. subset s (outside n f)) (rests n groups))
        (λ can. let g = any_elem (subset f) groups can in
        any_intro (λ s. subset s (outside n f)) (rests n groups) (outside n g.0) (elem_rests n g.0 groups g.1) (rest_subset n frame f g.0 lt ∙ g.2))
        (λ held. let s = any_elem (λ s. subset s (outside n f)) (rests n groups) held in
        let g = rests_elem n s.0 groups s.1 in
        any_intro (subset f) groups g.0 g.1 (sym (rest_subset n frame f g.0 lt) ∙ (ap (λ (x : ℕ). subset x (outside n f)) (sym g.2) ∙ s.2)))

    -- so the two models are one
    pub one_model : (f : ℕ) → CanFail groups f ↔ RestHolds n (rests n groups) f
    one_model f = (
      (λ can. let g = any_elem (subset f) groups can in let lt = subset_lt n f g.0 g.2 (below g.0 g.1) in (lt, sym (can_fail_rest f lt) ∙ can)),
      (λ held. can_fail_rest f held.0 ∙ held.1),
    )

    -- ---- the executions

    pub fails_described : {Φ : Type 0} (faulty : Φ → ℕ) → FailsAs n groups faulty → Describes n (rests n groups) (λ φ. outside n (faulty φ))
    fails_described faulty told = record {
      within = λ φ. outside_lt n (faulty φ);
      holds_set = λ φ. sym (can_fail_rest (faulty φ) (told.within φ)) ∙ told.in_group φ;
      occurs = λ s e.
          let g = rests_elem n s groups e in
          let w = told.occurs g.0 g.1 in
          (w.0, ap (outside n) w.1 ∙ sym g.2);
    }

-- the cores of the sets that can fail, taken as executions, are those of the model
module _ (n : ℕ) (frame : n ≤ 64) (F : Model) where
  abbrev correct : (f : ℕ) × F f → ℕ
  correct φ = outside n φ.0

  -- what meets the rest is no part of the set
  meets_rest : (m f : ℕ) → m < 2 ^ n → meets (outside n f) m ≡ not (subset m f)
  meets_rest m f lt = meets_sym (outside n f) m ∙ meets_outside n m f frame lt

  pub core_for : (c : ℕ) → Core n correct c → CoreFor n F c
  core_for c core = record {
    within = core.within;
    some_missing = λ f can. not-true (subset c f) (sym (meets_rest c f core.within) ∙ core.some_correct (f, can));
    none_to_spare = λ p own.
        let w = core.none_to_spare p own in
        let rest = minus c (single p) in
        (w.0.0, w.0.1, not-false (subset rest w.0.0) (sym (meets_rest rest w.0.0 (minus_lt n c (single p) core.within)) ∙ w.1));
  }

  pub for_core : (c : ℕ) → CoreFor n F c → Core n correct c
  for_core c core = record {
    within = core.within;
    some_correct = λ φ. meets_rest c φ.0 core.within ∙ ap not (core.some_missing φ.0 φ.1);
    none_to_spare = λ p own.
        let w = core.none_to_spare p own in
        ((w.0, w.1), meets_rest (minus c (single p)) w.0 (minus_lt n c (single p) core.within) ∙ ap not w.2);
  }

-- models that are one have one fail-prone system
pub same_model : {F G : Model} {list : List ℕ} → ((f : ℕ) → F f ↔ G f) → FailProne F list → FailProne G list
same_model same p = record {
  monotone = λ f part g h. (same part).0 (p.monotone f part ((same f).1 g) h);
  maximal = λ a. (
    (λ e. let m = (p.maximal a).0 e in record { can_fail = (same a).0 m.can_fail; no_larger = λ f g h. m.no_larger f ((same f).1 g) h }),
    (λ m. (p.maximal a).1 (record { can_fail = (same a).1 m.can_fail; no_larger = λ f g h. m.no_larger f ((same f).0 g) h })),
  );
}

-- and the other way round
module _ (n : ℕ) (frame : n ≤ 64) (sets : List ℕ) (below : Below n sets) where
  pub described_fails : {Φ : Type 0} (correct : Φ → ℕ) → Describes n sets correct → FailsAs n (rests n sets) (λ φ. outside n (correct φ))
  described_fails correct d = record {
    within = λ φ. outside_lt n (correct φ);
    in_group = λ φ.
        let s = any_elem (λ s. subset s (correct φ)) sets (d.holds_set φ) in
        any_intro (subset (outside n (correct φ))) (rests n sets) (outside n s.0) (elem_rests n s.0 sets s.1) (rest_subset n frame s.0 (correct φ) (below s.0 s.1) ∙ s.2);
    occurs = λ g e.
        let s = rests_elem n g sets e in
        let w = d.occurs s.0 s.1 in
        (w.0, ap (outside n) w.1 ∙ sym s.2);
  }

  -- a set of drives holds one of the sets exactly if it holds one of the normal table
  pub held_normal : (m : ℕ) → any (λ s. subset s m) (normal sets) ≡ any (λ s. subset s m) sets
  held_normal m =
      same_test (any (λ s. subset s m) (normal sets)) (any (λ s. subset s m) sets)
      (λ h. let s = any_elem (λ s. subset s m) (normal sets) h in any_intro (λ s. subset s m) sets s.0 (normal_elem s.0 sets s.1) s.2)
      (λ h. let s = any_elem (λ s. subset s m) sets h in
      let t = holds_normal sets word s.0 s.1 in
      any_intro (λ s. subset s m) (normal sets) t.0 t.1 (subset_trans n t.0 s.0 m (below t.0 (normal_elem t.0 sets t.1)) t.2 s.2))
    where
      word : Below 64 sets
      word s e = lt_of_lt_of_le (below s e) (pow_mono {i = n} {j = 64} frame)
