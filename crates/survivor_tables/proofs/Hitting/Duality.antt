-- Cores and the way back. A set of drives holds a core exactly if it meets every set of the family, and meets every
-- core exactly if it holds a set of the family; so from the cores of an antichain its sets come back as the minimal
-- ones that meet each core. Document 01: Back of a table's cores is the normal table. Documents 000 and 004: cores and
-- survivor sets are duals.
use Rattle.std.specs.Prelude.{◌≡◌, Bool, true, false, ◌↔◌, List, ℕ, ◌^◌, ◌≤◌, ◌<◌}
use Rattle.std.proofs.Common.{sym, ◌∙◌, subst, lt_of_lt_of_le, pow_mono}
use Rattle.std.proofs.Math.Path.{ap}
use Rattle.std.proofs.Math.Bool.{not}
use borrow.Author.Tests.{not-true}
use Rattle.drive_sets.specs.Bools.Laws.{clash, false_of, true_of, same_test}
use Rattle.drive_sets.specs.Lists.{any, elem, distinct, ordered}
use Rattle.drive_sets.specs.Lists.Laws.{all_not, any_elem, any_intro, any_not}
use Rattle.drive_sets.specs.Masks.{outside, meets, subset, Below}
use Rattle.drive_sets.specs.Masks.Laws.{subset_refl, subset_antisym, subset_trans, meets_sym, meets_subset}
use Rattle.drive_sets.specs.Masks.Frames.{below_more}
use Rattle.drive_sets.specs.Masks.Outside.{outside_lt, subset_outside, meets_outside}
use Rattle.survivor_tables.specs.Hitting.{hits, Minimal, minimals}
use Rattle.survivor_tables.specs.Hitting.Laws.{hits_meets, meets_hits, minimal_lt}
use Rattle.survivor_tables.specs.Hitting.Minimality.{hitting_contains, holds_minimal_hits}
use Rattle.survivor_tables.proofs.Hitting.SearchLaws.{minimals_minimal, minimal_found}
use Rattle.survivor_tables.proofs.Hitting.Distinct.{minimals_distinct}
use Rattle.survivor_tables.specs.Order.{by_mask, sort}
use Rattle.survivor_tables.specs.Order.Strict.{by_mask_strict}
use Rattle.survivor_tables.specs.Order.Sort.{sort_unique}
use Rattle.survivor_tables.proofs.Hitting.Listed.{listed_minimal, minimal_listed}
use Rattle.survivor_tables.specs.Order.Normal.{Antichain}

-- `cores` lists the cores of `sets`, a family of sets of the drives 1 to n
pub record Cores (n : ℕ) (sets cores : List ℕ) : Type 0 where
  pub frame : n ≤ 64
  pub within : Below n sets
  pub minimal : (c : ℕ) → elem c cores ≡ true → Minimal sets c
  pub listed : (c : ℕ) → Minimal sets c → elem c cores ≡ true

module _ (n : ℕ) (sets cores : List ℕ) (known : Cores n sets cores) where
  to_64 : (m : ℕ) → m < 2 ^ n → m < 2 ^ 64
  to_64 m h = lt_of_lt_of_le h (pow_mono {i = n} {j = 64} known.frame)

  -- ---- which sets of drives hold a core

  pub holds_core_law : (m : ℕ) → m < 2 ^ n → any (λ c. subset c m) cores ≡ hits sets m
  holds_core_law m lt = holds_minimal_hits sets cores known.minimal known.listed m (to_64 m lt)

  -- a set of drives holds no core exactly if the other drives hold a set of the family
  pub holds_core_or_complement : (m : ℕ) → m < 2 ^ n →
      (any (λ c. subset c m) cores ≡ false) ↔ ((t : ℕ) × (elem t sets ≡ true) × (subset t (outside n m) ≡ true))
  unfolding hits
  holds_core_or_complement m lt = (
    (λ h. let w = all_not (λ s. meets s m) sets (sym (holds_core_law m lt) ∙ h) in
        (w.0, w.1, subset_outside n w.0 m known.frame (known.within w.0 w.1) ∙ ap not w.2)),
    (λ w. let missed = not-true (meets w.0 m) (sym (subset_outside n w.0 m known.frame (known.within w.0 w.1)) ∙ w.2) in
        holds_core_law m lt ∙ false_of (hits sets m) (λ h. clash (hits_meets sets m w.0 h w.1) missed)),
  )

  -- ---- which sets of drives meet every core

  pub hits_cores : (m : ℕ) → hits cores m ≡ any (λ t. subset t m) sets
  hits_cores m =
      same_test (hits cores m) (any (λ t. subset t m) sets)
      (λ h. true_of (any (λ t. subset t m) sets) (λ none.
      let core = hitting_contains sets (outside n m) (to_64 (outside n m) (outside_lt n m)) (others_hit none) in
      clash (hits_meets cores m core.0 h (known.listed core.0 core.2))
      (not-true (meets core.0 m) (sym (subset_outside n core.0 m known.frame (minimal_lt n sets core.0 known.frame known.within core.2)) ∙ core.1))))
      (λ h. let t = any_elem (λ t. subset t m) sets h in
      meets_hits cores m (λ c e.
      meets_subset n c t.0 m (known.within t.0 t.1) t.2 (meets_sym c t.0 ∙ hits_meets sets c t.0 (known.minimal c e).all_met t.1)))
    where
      -- where no set of the family lies within m, each has a drive outside m
      others_hit : any (λ t. subset t m) sets ≡ false → hits sets (outside n m) ≡ true
      others_hit none =
          meets_hits sets (outside n m) (λ s e.
          meets_outside n s m known.frame (known.within s e) ∙ ap not (any_not (λ t. subset t m) sets s none e))

  -- ---- the way back

  pub set_hits_cores : (s : ℕ) → elem s sets ≡ true → hits cores s ≡ true
  set_hits_cores s e = hits_cores s ∙ any_intro (λ t. subset t s) sets s e (subset_refl s)

  pub minimal_set : (s : ℕ) → Minimal cores s → elem s sets ≡ true
  minimal_set s min =
      let t = any_elem (λ t. subset t s) sets (sym (hits_cores s) ∙ min.all_met) in
      subst (λ (x : ℕ). elem x sets ≡ true) (min.no_part t.0 t.2 (set_hits_cores t.0 t.1)) t.1

  module _ (antichain : Antichain sets) where
    pub set_minimal : (s : ℕ) → elem s sets ≡ true → Minimal cores s
    set_minimal s e =
        record {
          all_met = set_hits_cores s e;
          no_part = λ part p h.
              let t = any_elem (λ t. subset t part) sets (sym (hits_cores part) ∙ h) in
              let same = antichain t.0 s t.1 e (subset_trans n t.0 part s (known.within t.0 t.1) t.2 p) in
              subset_antisym part s p (subst (λ (x : ℕ). subset x part ≡ true) same t.2);
        }

    -- the minimal hitting sets of the cores, by mask, are the family
    pub back_of_cores : ordered by_mask sets ≡ true → (l : List ℕ) → distinct l ≡ true → ((s : ℕ) → elem s l ≡ true → Minimal cores s)
        → ((s : ℕ) → Minimal cores s → elem s l ≡ true) → sort by_mask l ≡ sets
    back_of_cores o l d sound complete =
        sort_unique by_mask by_mask_strict l sets d o
        (λ s. same_test (elem s l) (elem s sets) (λ h. minimal_set s (sound s h)) (λ h. complete s (set_minimal s h)))

-- ---- the same of the lists that the search gives

module _ (n : ℕ) (sets : List ℕ) (frame : n ≤ 64) (within : Below n sets) where
  pub cores_minimals : (before : ℕ → ℕ → Bool) → Cores n sets (sort before (minimals sets))
  cores_minimals before =
      record {
        frame = frame;
        within = within;
        minimal = listed_minimal before sets (below_more n sets frame within);
        listed = minimal_listed before sets (below_more n sets frame within);
      }

  -- Back of a normal table's cores, in any order, is the table
  pub back_of_minimals : (before : ℕ → ℕ → Bool) → ordered by_mask sets ≡ true → Antichain sets → sort by_mask (minimals (sort before (minimals sets))) ≡ sets
  back_of_minimals before o antichain =
      back_of_cores n sets cores (cores_minimals before) antichain o (minimals cores) (minimals_distinct cores below)
      (λ s e. minimals_minimal cores s below e) (λ s min. minimal_found cores s below min)
    where
      cores : List ℕ
      cores = sort before (minimals sets)

      below : Below 64 cores
      below = below_more n cores frame (λ c e. minimal_lt n sets c frame within ((cores_minimals before).minimal c e))
