-- The table of the numbers of groups of t out of n drives, for n and t from 0 to 64, held at 1025: document 02 (i).
use Rattle.std.specs.Prelude.{◌≡◌, List, [], ◌∷◌, ◌++◌, ℕ, zero, suc, ◌+◌, ◌*◌, ◌≤◌, ◌<◌, min, get_or, replicate}
use Rattle.drive_sets.specs.Limits.{max_drives, max_cores}
pub mod Laws

-- 1025 where the number is larger: one more than a table has cores at most
unfoldable pub held : ℕ → ℕ
held x = min x (suc max_cores)

-- the rule of the table, whose entry for n and t is in row n
pub record Rule (entry : ℕ → ℕ → ℕ) : Type 0 where
  -- row 0 is 1 and then zeros, each row starts with 1
  pub first_row_law : (t : ℕ) → t < max_drives → entry 0 (suc t) ≡ 0
  pub starts : (n : ℕ) → n ≤ max_drives → entry n 0 ≡ 1
  -- each other entry is the sum of the one above and that one's left neighbour, held at 1025
  pub sums : (n t : ℕ) → n < max_drives → t < max_drives → entry (suc n) (suc t) ≡ held (entry n (suc t) + entry n t)

-- ---- the table that the rule gives, row by row

-- the entries below a row's entries, behind the first; `left` is the neighbour on the left
unfoldable pub sums_held : ℕ → List ℕ → List ℕ
unfolding held
sums_held left [] = []
sums_held left (above ∷ row) = held (above + left) ∷ sums_held above row

unfoldable pub next_row : List ℕ → List ℕ
unfolding sums_held
next_row [] = []
next_row (above ∷ row) = 1 ∷ sums_held above row

-- so many rows, from this one on
unfoldable pub rows : ℕ → List ℕ → List ℕ
unfolding next_row
rows zero row = []
rows (suc c) row = row ++ rows c (next_row row)

-- a row has 65 entries, and so has a column
abbrev pub row_length : ℕ
row_length = suc max_drives

unfoldable pub group_counts : List ℕ
unfolding rows
group_counts = rows row_length (1 ∷ replicate max_drives 0)

-- the entry for n and t
unfoldable pub count_at : ℕ → ℕ → ℕ
unfolding group_counts
count_at n t = get_or group_counts (n * row_length + t) 0
