-- The way back from the cores that the calls list. Document 01: "Back: from n and any list of groups, the smallest
-- groups that meet each of them, in the normal table's order. From a table's cores that is the normal table."
use Rattle.std.specs.Prelude.{◌≡◌, List, ℕ}
use Rattle.drive_sets.specs.Refusals.{yields}
use Rattle.survivor_tables.specs.Order.{normal}
use Rattle.survivor_tables.specs.Tables.{cores, survivor_sets, Accepted}
use Rattle.complete_tables.specs.Complete.{Complete, complete_table}
use Rattle.table_files.specs.WithCores.{ReadComplete, read_complete, read_whole_complete}

-- from the cores of an accepted table Back gives the normal table, and so refuses none
unfoldable pub BackFromCores : Type 0
BackFromCores = (n : ℕ) (sets : List ℕ) → Accepted n sets → survivor_sets n (cores (normal sets)) ≡ yields (normal sets)

-- Back of the cores beside a table is that table
abbrev pub BackOf : Complete → Type 0
BackOf t = survivor_sets t.n t.cores ≡ yields t.sets

-- of the table that a call gives, of one read with more behind it, and of one read with nothing more
unfoldable pub BackFromCall : Type 0
BackFromCall = (n : ℕ) (sets : List ℕ) (t : Complete) → complete_table n sets ≡ yields t → BackOf t

unfoldable pub BackFromRead : Type 0
BackFromRead = (s : List ℕ) (r : ReadComplete) → read_complete s ≡ yields r → BackOf r.table

unfoldable pub BackFromWhole : Type 0
BackFromWhole = (s : List ℕ) (t : Complete) → read_whole_complete s ≡ yields t → BackOf t
