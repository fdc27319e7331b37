-- Splits of the drives 1 to n into blocks: by the number of each drive's block, and as a list of blocks; and the moves
-- that leave no block empty.
use Rattle.std.specs.Prelude.{◌≡◌, true, not, List, ℕ, zero, suc, ◌-◌, ◌≤◌, eqb, leb, length, get_or, set, None, Some}
use Rattle.drive_sets.specs.Positions.{Position}
use Rattle.drive_sets.specs.Bools.{as_number}
use Rattle.drive_sets.specs.Lists.{range, filter, elem, first_failing}
use Rattle.drive_sets.specs.Masks.{has, single, full, minus, subset, Below, size, lowest, of_drives}
pub mod OneMove
pub mod Moves
pub mod Listed

-- a split of the drives 1 to n into k blocks: the number of each drive's block, 1 to k, and no block is empty
pub record Split (k n : ℕ) (block : ℕ → ℕ) : Type 0 where
  pub low : (d : ℕ) → 1 ≤ d → d ≤ n → 1 ≤ block d
  pub high : (d : ℕ) → 1 ≤ d → d ≤ n → block d ≤ k
  pub none_empty : (j : ℕ) → 1 ≤ j → j ≤ k → (d : ℕ) × (1 ≤ d) × (d ≤ n) × (block d ≡ j)

-- the j-th block of a split, j from 1
unfoldable pub block_of : ℕ → (ℕ → ℕ) → ℕ → ℕ
block_of n block j = of_drives (filter (λ d. eqb (block d) j) (range 1 n))

-- how many of some blocks have the drive, and how many are empty
abbrev pub holders : ℕ → List ℕ → ℕ
holders d blocks = length (filter (has d) blocks)

abbrev pub empties : List ℕ → ℕ
empties blocks = length (filter (λ b. eqb b 0) blocks)

-- blocks of the drives 1 to n: each of these is in exactly one, and no other drive is in any; blocks may be empty
pub record Parted (n : ℕ) (blocks : List ℕ) : Type 0 where
  pub within : Below n blocks
  pub one : (d : ℕ) → holders d blocks ≡ as_number (has d (full n))

-- each block of the first list is part of one of the second
abbrev pub PartOf : List ℕ → List ℕ → Type 0
PartOf after before = (b : ℕ) → elem b after ≡ true → (c : ℕ) × (elem c before ≡ true) × (subset b c ≡ true)

-- ---- no empty blocks

-- the position of the first empty block, and that of the first with two drives or more
abbrev pub first_empty : List ℕ → Position
first_empty blocks = first_failing 1 (λ b. not (eqb b 0)) blocks

abbrev pub first_large : List ℕ → Position
first_large blocks = first_failing 1 (λ b. leb (size b) 1) blocks

-- the blocks with the lowest drive of the block at one place moved to another place
unfoldable pub with_move : List ℕ → ℕ → ℕ → List ℕ
with_move blocks from to =
    let block = get_or blocks from 0 in
    set (set blocks from (minus block (single (lowest block)))) to (single (lowest block))

-- from the block at one position to that at another, where both are there
abbrev pub move_between : List ℕ → Position → Position → List ℕ
move_between blocks (Some from) (Some to) = with_move blocks (from - 1) (to - 1)
move_between blocks (Some from) None = blocks
move_between blocks None to = blocks

-- one move, where a block is empty: the lowest drive of the first block with two or more, to the first empty block
unfoldable pub moved : List ℕ → List ℕ
moved blocks = move_between blocks (first_large blocks) (first_empty blocks)

-- so many moves, each of the blocks as the one before leaves them
unfoldable pub moves : ℕ → List ℕ → List ℕ
moves zero blocks = blocks
moves (suc left) blocks = moves left (moved blocks)

-- moves while a block is empty: as many as there are blocks are enough where the frame has no fewer drives
-- (`Moves.fill_ends`), and where none is empty nothing moves
unfoldable pub fill_empty : List ℕ → List ℕ
fill_empty blocks = moves (length blocks) blocks
