-- What comes with a no: the first positions, and blocks that are a split of the drives, of which none is empty or holds
-- a core. When it is formed block i lies outside the i-th named set, so that set misses it; and a core meets every set.
-- After the moves each block is part of one that was formed.
use Rattle.std.specs.Prelude.{◌≡◌, refl, true, false, List, map, ℕ, ◌^◌, ◌<◌, length, get_or}
use Rattle.std.proofs.Common.{sym, ◌∙◌, subst, arith}
use Rattle.std.proofs.Math.Path.{ap}
use Rattle.std.proofs.Math.Bool.{not}
use Rattle.std.proofs.lemmas.List.{length-map}
use Rattle.drive_sets.specs.Bools.Laws.{clash, false_of}
use Rattle.drive_sets.specs.Lists.{range, elem}
use Rattle.drive_sets.specs.Lists.Places.{get_or_elem, elem_get_or}
use Rattle.drive_sets.specs.Masks.{has, outside, subset}
use Rattle.drive_sets.specs.Masks.Laws.{not_meets, subset_has}
use Rattle.drive_sets.specs.Masks.Outside.{subset_outside}
use Rattle.survivor_tables.proofs.Hitting.Duality.{Cores, cores_minimals, holds_core_or_complement}
use Rattle.survivor_tables.specs.Order.{by_size}
use Rattle.survivor_tables.specs.Tables.{cores, Accepted}
use Rattle.survivor_tables.proofs.Tables.Laws.{sets_below}
use Rattle.splits.specs.Splits.{Split, block_of, Parted, PartOf, fill_empty}
use Rattle.splits.specs.Splits.Moves.{length_fill, fill_keeps, fill_ends}
use Rattle.splits.specs.Splits.Listed.{split_of_blocks}
use Rattle.verdict_search.specs.Verdicts.{no, set_at, sets_at, blocks_of, verdict_on}
use Rattle.verdict_search.proofs.Verdicts.Intersection.{no_some, shared_drive, sets_from, some_first}
use Rattle.verdict_search.proofs.Verdicts.Blocks.{length_blocks, blocks_below, blocks_rule, not_named, blocks_one}
use Rattle.verdict_search.specs.Meaning.{FirstNoneShared}
use Rattle.verdicts.specs.Partitions.{holds_core, NoWitness}

module _ (n : ℕ) (table : List ℕ) (accepted : Accepted n table) where
  -- ---- which blocks hold a core

  table_cores : Cores n table (cores table)
  unfolding cores
  table_cores = cores_minimals n table accepted.high (sets_below n table accepted) by_size

  -- a block that a set of the table misses holds no core
  pub missed_no_core : (b s : ℕ) → b < 2 ^ n → elem s table ≡ true → ((d : ℕ) → has d b ≡ true → has d s ≡ false) → holds_core table b ≡ false
  unfolding holds_core
  missed_no_core b s lt i f =
      (holds_core_or_complement n table (cores table) table_cores b lt).1 (
        s,
        i,
        subset_outside n s b accepted.high (sets_below n table accepted s i)
            ∙ ap not (not_meets n s b (sets_below n table accepted s i) (λ d e. false_of (has d b) (λ q. clash e (f d q)))),
      )

  -- outside a block that holds no core lies a set of the table
  pub no_core_outside : (b : ℕ) → b < 2 ^ n → holds_core table b ≡ false → (s : ℕ) × (elem s table ≡ true) × (subset s (outside n b) ≡ true)
  unfolding holds_core
  no_core_outside b lt h = (holds_core_or_complement n table (cores table) table_cores b lt).0 h

  -- ---- the blocks

  module _ (k : ℕ) (ps : List ℕ) (found : FirstNoneShared k n table ps) where
    abbrev named : List ℕ
    named = sets_at table ps

    abbrev first : List ℕ
    first = blocks_of n 0 named

    count_first : length first ≡ k
    count_first = length_blocks n 0 named ∙ (length-map ps (set_at table) ∙ found.none_shared.positions.count)

    first_parted : Parted n first
    first_parted = record {
      within = blocks_below n 0 named;
      one = blocks_one n named (λ h. found.none_shared.share_none (shared_drive n accepted.high named h));
    }

    kept : Parted n (fill_empty first) × PartOf (fill_empty first) first
    kept = fill_keeps n accepted.high first first_parted

    none_empty : k < n → elem 0 (fill_empty first) ≡ false
    none_empty more = fill_ends n accepted.high first first_parted (omega (arith, count_first))

    -- each block is part of one that was formed first, and that lies outside its named set
    no_core : (b : ℕ) → elem b (fill_empty first) ≡ true → holds_core table b ≡ false
    no_core b i =
        let w = kept.1 b i in
        let at = elem_get_or w.0 first w.1 in
        let place : at.0 < length named = omega (arith, at.1, length_blocks n 0 named) in
        missed_no_core b (get_or named at.0 0) (kept.0.within b i)
        (sets_from n accepted.high k table ps found.none_shared.positions (get_or named at.0 0) (get_or_elem named at.0 place))
        (λ d e. not_named n named at.0 d place (ap (has d) at.2 ∙ subset_has d b w.0 w.2 e))

    blocks_witness : k < n → NoWitness k n table ps (fill_empty first)
    blocks_witness more = record {
      positions = found;
      first = first;
      formed = record { count = length_blocks n 0 named; rule = blocks_rule n named };
      moved = refl;
      count = length_fill first ∙ count_first;
      parted = kept.0;
      none_empty = none_empty more;
      split = subst (λ (x : ℕ). (block : ℕ → ℕ) × Split x n block × (fill_empty first ≡ map (block_of n block) (range 1 x))) (length_fill first ∙ count_first)
          (split_of_blocks n accepted.high (fill_empty first) kept.0 (none_empty more));
      no_core = no_core;
    }

  pub no_witness : (k : ℕ) (ps blocks : List ℕ) → k < n → verdict_on k n table ≡ no ps blocks → NoWitness k n table ps blocks
  no_witness k ps blocks more e =
      let w = no_some k n table e in
      subst (NoWitness k n table ps) (sym w.1) (blocks_witness k ps (some_first n accepted.high k table ps w.0) more)
