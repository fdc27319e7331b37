-- The positions that come with a no are the first k whose sets share no drive; and the verdict is yes exactly if every
-- k sets of the table, repeats allowed, share a drive (k-Intersection). For every k.
use Rattle.std.specs.Prelude.{◌≡◌, ◌↔◌, List, ℕ, ◌-◌, ◌≤◌, length}
use Rattle.std.proofs.Common.{sym, ◌∙◌, arith}
use Rattle.std.proofs.Math.Path.{ap}
use Rattle.std.proofs.Math.Option.{none, some}
use Rattle.std.proofs.lemmas.List.{length-map}
use Rattle.drive_sets.specs.Options.Laws.{by_option}
use Rattle.drive_sets.specs.Lists.{elem}
use Rattle.drive_sets.specs.Lists.Places.{get_or_elem, map_elem}
use Rattle.drive_sets.specs.Masks.{full}
use Rattle.drive_sets.specs.Masks.Laws.{has_bounds, full_has, full_lt, full_word}
use Rattle.survivor_tables.specs.Tables.{Accepted}
use Rattle.splits.specs.Splits.{fill_empty}
use Rattle.splits.specs.Splits.Moves.{length_fill}
use Rattle.verdict_search.specs.Verdicts.{Verdict, yes, no, set_at, sets_at, disjoint, blocks_of, verdict_with, verdict_on}
use Rattle.verdict_search.proofs.Verdicts.Search.{disjoint_none}
use Rattle.verdict_search.specs.Sharing.{Shared}
use Rattle.verdict_search.proofs.Verdicts.Firsts.{Names, disjoint_first}
use Rattle.verdict_search.proofs.Verdicts.Blocks.{length_blocks}
use Rattle.verdict_search.specs.Meaning.{SharedDrive, AllFrom, Intersection, Positions, NoneShared, FirstNoneShared}

-- ---- the verdict by what the search finds

yes_not_no : {v : Verdict} {ps blocks : List ℕ} → v ≡ yes → v ≡ no ps blocks → ⊥
yes_not_no p q = let z : ◌≡◌ {A = ℕ} 0 1 = cc in omega arith

same_no : {v : Verdict} {ps qs blocks others : List ℕ} → v ≡ no ps blocks → v ≡ no qs others → (ps ≡ qs) × (blocks ≡ others)
same_no p q = (cc, cc)

module _ (k n : ℕ) (table : List ℕ) where
  pub none_yes : disjoint k 1 table (full n) ≡ none → verdict_on k n table ≡ yes
  unfolding verdict_on
  none_yes e = ap (verdict_with n table) e

  pub some_no : {ps : List ℕ} → disjoint k 1 table (full n) ≡ some ps → verdict_on k n table ≡ no ps (fill_empty (blocks_of n 0 (sets_at table ps)))
  unfolding verdict_on
  some_no e = ap (verdict_with n table) e

  pub yes_none : verdict_on k n table ≡ yes → disjoint k 1 table (full n) ≡ none
  yes_none e = by_option (disjoint k 1 table (full n)) (λ h. h) (λ ps h. absurd (yes_not_no e (some_no h)))

  pub no_some : {ps blocks : List ℕ} → verdict_on k n table ≡ no ps blocks
      → (disjoint k 1 table (full n) ≡ some ps) × (blocks ≡ fill_empty (blocks_of n 0 (sets_at table ps)))
  no_some e =
      by_option (disjoint k 1 table (full n))
      (λ h. absurd (yes_not_no (none_yes h) e))
      (λ qs h. let w = same_no (some_no h) e in (h ∙ ap some w.0, sym w.1 ∙ ap (λ (l : List ℕ). fill_empty (blocks_of n 0 (sets_at table l))) w.0))

-- a no has k positions and k blocks
pub no_counts : (k n : ℕ) (table : List ℕ) {ps blocks : List ℕ} → verdict_on k n table ≡ no ps blocks → (length ps ≡ k) × (length blocks ≡ k)
no_counts k n table {ps = ps} e =
    let w = no_some k n table e in
    let count = (disjoint_first k table 1 (full n) ps (full_word n) w.0).names.count in
    (count, ap length w.1 ∙ (length_fill (blocks_of n 0 (sets_at table ps)) ∙ (length_blocks n 0 (sets_at table ps) ∙ (length-map ps (set_at table) ∙ count))))

-- ---- a drive of the frame that the sets share

module _ (n : ℕ) (frame : n ≤ 64) where
  pub shared_drive : (sets : List ℕ) → Shared (full n) sets → SharedDrive n sets
  shared_drive sets w = let b = has_bounds n w.0 (full n) (full_lt n) w.1 in record { drive = w.0; low = b.0; high = b.1; in_each = w.2 }

  drive_shared : (sets : List ℕ) → SharedDrive n sets → Shared (full n) sets
  drive_shared sets w = (w.drive, full_has w.drive n frame w.low w.high, w.in_each)

  -- ---- the positions

  module _ (k : ℕ) (table : List ℕ) where
    pub sets_from : (ps : List ℕ) → Positions k table ps → AllFrom table (sets_at table ps)
    sets_from ps at s i =
        let p = map_elem (set_at table) s ps i in
        let b = at.within p.0 p.1 in
        ap (λ (x : ℕ). elem x table) p.2 ∙ get_or_elem table (p.0 - 1) (omega arith)

    names_none_shared : (ps : List ℕ) → Names k 1 table (full n) ps → NoneShared k n table ps
    names_none_shared ps w = record {
      positions = record { count = w.count; within = λ p i. let b = w.within p i in (b.0, omega arith) };
      not_falling_law = w.not_falling_law;
      share_none = λ h. w.share_none (drive_shared (sets_at table ps) h);
    }

    none_shared_names : (ps : List ℕ) → NoneShared k n table ps → Names k 1 table (full n) ps
    none_shared_names ps w = record {
      count = w.positions.count;
      within = λ p i. let b = w.positions.within p i in (b.0, omega arith);
      not_falling_law = w.not_falling_law;
      share_none = λ h. w.share_none (shared_drive (sets_at table ps) h);
    }

    -- what is found is the first
    pub some_first : (ps : List ℕ) → disjoint k 1 table (full n) ≡ some ps → FirstNoneShared k n table ps
    some_first ps e =
        let w = disjoint_first k table 1 (full n) ps (full_word n) e in
        record { none_shared = names_none_shared ps w.names; first = λ qs h. w.first qs (none_shared_names qs h) }

    none_intersection : disjoint k 1 table (full n) ≡ none → Intersection k n table
    none_intersection e sets count from = shared_drive sets (disjoint_none k table 1 (full n) (full_word n) e sets count from)

-- ---- k-Intersection

module _ (k n : ℕ) (table : List ℕ) (accepted : Accepted n table) where
  pub yes_intersection : (verdict_on k n table ≡ yes) ↔ Intersection k n table
  yes_intersection = (λ e. none_intersection n accepted.high k table (yes_none k n table e), intersecting)
    where
      intersecting : Intersection k n table → verdict_on k n table ≡ yes
      intersecting h =
          by_option (disjoint k 1 table (full n))
          (λ e. none_yes k n table e)
          (λ ps e. let w = (some_first n accepted.high k table ps e).none_shared in
          absurd (w.share_none (h (sets_at table ps) (length-map ps (set_at table) ∙ w.positions.count) (sets_from n accepted.high k table ps w.positions))))
