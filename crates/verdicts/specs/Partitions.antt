-- What a verdict means for splits: blocks that hold a core and k-Partition, and what comes with a no.
use Rattle.std.specs.Prelude.{◌≡◌, Bool, true, false, not, ◌&&◌, List, map, ℕ, ◌≤◌, ◌<◌, length, get_or, take}
use Rattle.drive_sets.specs.Lists.{range, any, elem}
use Rattle.drive_sets.specs.Masks.{has, full, subset}
use Rattle.survivor_tables.specs.Tables.{cores}
use Rattle.splits.specs.Splits.{Split, block_of, Parted, fill_empty}
use Rattle.verdict_search.specs.Verdicts.{sets_at}
use Rattle.verdict_search.specs.Meaning.{FirstNoneShared}
pub mod Witness
pub mod Laws

-- ---- k-Partition

-- a core of the table lies within the block
unfoldable pub holds_core : List ℕ → ℕ → Bool
holds_core table block = any (λ c. subset c block) (cores table)

-- every split of the drives 1 to n into k blocks, none empty, has a block that holds a core
abbrev pub Partition : ℕ → ℕ → List ℕ → Type 0
Partition k n table = (block : ℕ → ℕ) → Split k n block → (j : ℕ) × (1 ≤ j) × (j ≤ k) × (holds_core table (block_of n block j) ≡ true)

-- ---- what comes with a no

-- the blocks that are formed first: each holds the drives outside the named set at its place and in no earlier block
pub record Formed (n : ℕ) (named blocks : List ℕ) : Type 0 where
  pub count : length blocks ≡ length named
  pub rule : (i d : ℕ) → i < length named
      → has d (get_or blocks i 0) ≡ (has d (full n) && (not (has d (get_or named i 0)) && not (any (has d) (take i blocks))))

pub record NoWitness (k n : ℕ) (table ps blocks : List ℕ) : Type 0 where
  -- the first k positions whose sets share no drive
  pub positions : FirstNoneShared k n table ps
  -- the blocks that are formed first, and then the moves
  pub first : List ℕ
  pub formed : Formed n (sets_at table ps) first
  pub moved : blocks ≡ fill_empty first
  -- there are k, each drive is in one of them, and none is empty: they are the blocks of a split; and none holds a core
  pub count : length blocks ≡ k
  pub parted : Parted n blocks
  pub none_empty : elem 0 blocks ≡ false
  pub split : (block : ℕ → ℕ) × Split k n block × (blocks ≡ map (block_of n block) (range 1 k))
  pub no_core : (b : ℕ) → elem b blocks ≡ true → holds_core table b ≡ false
