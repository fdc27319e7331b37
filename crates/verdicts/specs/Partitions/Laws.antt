-- The verdict is yes exactly if every split of the drives into k blocks, none empty, has one that holds a core
-- (k-Partition), for every k and every frame of more than k drives. If no block of a split holds a core, a set of the
-- table lies outside each, and these k sets share no drive, for a drive that they share is in no block. If k sets share
-- no drive, the blocks of the no are a split and none holds a core.
use Rattle.std.specs.Prelude.{◌≡◌, refl, true, false, ◌↔◌, List, [], ◌∷◌, ℕ, suc, ◌<◌, length}
use Rattle.std.proofs.Common.{sym, ap, ◌∙◌, ⊎_elim, arith, eq-eqb}
use Rattle.std.proofs.lemmas.Bool.{not-true}
use Rattle.drive_sets.specs.Bools.Laws.{clash, by_test, and_intro, and_right}
use Rattle.drive_sets.specs.Options.Laws.{by_option}
use Rattle.drive_sets.specs.Lists.{range, any, elem}
use Rattle.drive_sets.specs.Lists.Laws.{elem_head, elem_tail, elem_cases, elem_none, any_elem, any_not, elem_range, range_elem}
use Rattle.drive_sets.specs.Lists.Places.{elem_map, length_range}
use Rattle.drive_sets.specs.Masks.{has, full, outside, subset}
use Rattle.drive_sets.specs.Masks.Laws.{full_has, subset_has}
use Rattle.drive_sets.specs.Masks.Outside.{has_outside}
use Rattle.survivor_tables.specs.Tables.{Accepted}
use Rattle.splits.specs.Splits.{Split, block_of}
use Rattle.splits.specs.Splits.Listed.{block_of_lt, has_block_of}
use Rattle.verdict_search.specs.Verdicts.{yes, disjoint, verdict_on}
use Rattle.verdict_search.proofs.Verdicts.Intersection.{none_yes, some_no, yes_intersection}
use Rattle.verdicts.specs.Partitions.Witness.{no_core_outside, no_witness}
use Rattle.verdict_search.specs.Meaning.{SharedDrive, AllFrom, Intersection}
use Rattle.verdicts.specs.Partitions.{holds_core, Partition}

module _ (k n : ℕ) (table : List ℕ) (accepted : Accepted n table) where
  -- ---- a split none of whose blocks holds a core

  module _ (block : ℕ → ℕ) where
    -- the sets of the list lie outside the blocks of these numbers, one outside each
    record Outside (js sets : List ℕ) : Type 0 where
      count : length sets ≡ length js
      from : AllFrom table sets
      one : (j : ℕ) → elem j js ≡ true → (s : ℕ) × (elem s sets ≡ true) × (subset s (outside n (block_of n block j)) ≡ true)

    sets_outside : (js : List ℕ) → ((j : ℕ) → elem j js ≡ true → holds_core table (block_of n block j) ≡ false) → (sets : List ℕ) × Outside js sets
    sets_outside [] f = ([], record { count = refl; from = λ s i. absurd (clash i (elem_none s)); one = λ j i. absurd (clash i (elem_none j)) })
    sets_outside (j ∷ js) f =
        let s = no_core_outside n table accepted (block_of n block j) (block_of_lt n accepted.high block j) (f j (elem_head j js)) in
        let rest = sets_outside js (λ i h. f i (elem_tail i j js h)) in
        (s.0 ∷ rest.0, more s.0 s.1 s.2 rest.0 rest.1)
      where
        more : (s : ℕ) → elem s table ≡ true → subset s (outside n (block_of n block j)) ≡ true → (sets : List ℕ) → Outside js sets → Outside (j ∷ js) (s ∷ sets)
        more s i out sets w = record {
          count = ap suc w.count;
          from = λ x h. ⊎_elim (λ q. ap (λ (y : ℕ). elem y table) q ∙ i) (λ q. w.from x q) (elem_cases x s sets h);
          one = λ x h.
              ⊎_elim
              (λ q. (s, elem_head s sets, ap (λ (y : ℕ). subset s (outside n (block_of n block y))) q ∙ out))
              (λ q. let o = w.one x q in (o.0, elem_tail o.0 s sets o.1, o.2))
              (elem_cases x j js h);
        }

    -- no drive is in all of them: it would be in no block
    outside_share_none : Split k n block → (sets : List ℕ) → Outside (range 1 k) sets → SharedDrive n sets → ⊥
    outside_share_none split sets w d =
        let j = block d.drive in
        let s = w.one j (range_elem j 1 k (split.low d.drive d.low d.high) (omega (arith, split.high d.drive d.low d.high))) in
        let in_outside = subset_has d.drive s.0 (outside n (block_of n block j)) s.2 (d.in_each s.0 s.1) in
        clash
        (has_block_of n accepted.high block j d.drive ∙ and_intro (full_has d.drive n accepted.high d.low d.high) (eq-eqb j j refl))
        (not-true (has d.drive (block_of n block j)) (and_right (has d.drive (full n)) _ (sym (has_outside d.drive n (block_of n block j)) ∙ in_outside)))

  -- ---- k-Partition

  intersection_partition : Intersection k n table → Partition k n table
  intersection_partition every block split =
      by_test (any (λ j. holds_core table (block_of n block j)) (range 1 k))
      (λ h. let j = any_elem (λ j. holds_core table (block_of n block j)) (range 1 k) h in
      let b = elem_range j.0 1 k j.1 in
      (j.0, b.0, omega arith, j.2))
      (λ h. let w = sets_outside block (range 1 k) (λ j i. any_not (λ j. holds_core table (block_of n block j)) (range 1 k) j h i) in
      absurd (outside_share_none block split w.0 w.1 (every w.0 (w.1.count ∙ length_range 1 k) w.1.from)))

  partition_yes : k < n → Partition k n table → verdict_on k n table ≡ yes
  partition_yes more every =
      by_option (disjoint k 1 table (full n))
      (λ e. none_yes k n table e)
      (λ ps e. let w = no_witness n table accepted k ps _ more (some_no k n table e) in
      let block = w.split.0 in
      let j = every block w.split.1 in
      absurd
      (clash j.3
      (w.no_core (block_of n block j.0)
      (ap (elem (block_of n block j.0)) w.split.2 ∙ elem_map (block_of n block) j.0 (range 1 k) (range_elem j.0 1 k j.1 (omega (arith, j.2)))))))

  pub yes_partition : k < n → (verdict_on k n table ≡ yes) ↔ Partition k n table
  yes_partition more = (λ e. intersection_partition ((yes_intersection k n table accepted).0 e), partition_yes more)
