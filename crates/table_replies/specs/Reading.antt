-- What a reader holds when its table is put into lent memory.
use Rattle.std.specs.Prelude.{◌≡◌, List, ℕ, ◌-◌, length}
use Rattle.table_files.specs.Files.{ReadTable}

-- the table that is read: its drives, its sets, and how many of the bytes s it took
pub record TableHeld (n : ℕ) (sets : List ℕ) (used : ℕ) (s : List ℕ) (t : ReadTable) : Type 0 where
  pub drives : t.n ≡ n
  pub masks : t.sets ≡ sets
  pub took : used ≡ length s - length t.rest
