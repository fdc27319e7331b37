-- The columns of a table: for each drive the places of the sets that lack it, from 0, in two words of 64 bits. What is
-- said of them is what a yes needs: no place of a set that lacks the drive is missing.
use Rattle.std.specs.Prelude.{◌≡◌, Bool, true, false, List, ℕ, suc, ◌+◌, ◌*◌, ◌/◌, ◌%◌, ◌≤◌, ◌<◌, length, get_or}
use Rattle.drive_sets.specs.Limits.{max_sets}
use Rattle.drive_sets.specs.Lists.{elem}
use Rattle.drive_sets.specs.Masks.{has, minus, size}
use Rattle.verdict_search.specs.declared.columns.Lacking.{Lacking}

-- two words for each of 64 drives
abbrev pub column_words : ℕ
column_words = 128

-- the column of drive i + 1 has the place j
unfoldable pub has_place : List ℕ → ℕ → ℕ → Bool
has_place columns i j = has (suc (j % 64)) (get_or columns (2 * i + j / 64) 0)

-- the place is put into the columns of these drives, and none is lost
pub record Added (old new : List ℕ) (place drives : ℕ) : Type 0 where
  pub kept : (i j : ℕ) → has_place old i j ≡ true → has_place new i j ≡ true
  pub put : (i : ℕ) → has (suc i) drives ≡ true → has_place new i place ≡ true

-- each set before the place that lacks a drive of m is in the drive's column
abbrev pub LackingTo : ℕ → List ℕ → List ℕ → ℕ → Type 0
LackingTo place table columns m = (i j : ℕ) → has (suc i) m ≡ true → j < place → has (suc i) (get_or table j 0) ≡ false → has_place columns i j ≡ true

-- the columns of a table for the drives of m: each set that lacks one is in its column, and none lacks more than `most`
pub record Columns (table columns : List ℕ) (most m : ℕ) : Type 0 where
  pub room : column_words ≤ length columns
  pub lacking : LackingTo (length table) table columns m
  pub few : (s : ℕ) → elem s table ≡ true → size (minus m s) ≤ most

-- the same, of the columns that are held
abbrev pub LackingOf : List ℕ → Lacking → ℕ → Type 0
LackingOf table lacking m = Columns table lacking.columns lacking.most m

-- no place is in the columns of all drives of m
abbrev pub EachMet : List ℕ → ℕ → Type 0
EachMet columns m = (j : ℕ) → j < max_sets → (i : ℕ) × (has (suc i) m ≡ true) × (has_place columns i j ≡ false)
