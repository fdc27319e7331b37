-- Tables read back as written, of the writer's contract and of the readers. Document 01: "A table may list sets in any
-- order; the writer writes the normal table, starting at any place in the lent buffer and touching only its own bytes."
use Rattle.std.specs.Prelude.{◌≡◌, List, ℕ, ◌+◌, take, drop, Result}
use Rattle.drive_sets.specs.declared.Refusal.{Refusal}
use Rattle.drive_sets.specs.Refusals.{yields, outcome}
use Rattle.lent_bytes.specs.LentBuffers.{WrittenIfRoom}
use Rattle.survivor_tables.specs.Order.{normal}
use Rattle.table_files.specs.Files.{table_bytes}
use Rattle.table_writing.specs.Writing.{write_table}
use Rattle.complete_tables.specs.Complete.{Complete, with_cores}
use Rattle.table_files.specs.WithCores.{ReadComplete, read_complete, read_whole_complete}

-- a table of so many bytes was written from the starting place on, over the old bytes
pub record ReadsBack (t : Complete) (start size : ℕ) (old new : List ℕ) : Type 0 where
  -- read from the starting place on it is the table, and what stood behind it before is handed back
  pub with_rest : read_complete (drop start new) ≡ yields (record { table = t; rest = drop (start + size) old })
  -- its bytes alone are the whole table
  pub alone : read_whole_complete (take size (drop start new)) ≡ yields t

-- what the writer wrote of n and sets reads back as their normal table with its cores
unfoldable pub WrittenReadsBack : Type 0
WrittenReadsBack = (n : ℕ) (sets : List ℕ) (start : ℕ) (old new : List ℕ) (r : Result ℕ Refusal) (size : ℕ)
    → WrittenIfRoom (write_table n sets) start old new r → outcome r ≡ yields size
    → ReadsBack (with_cores n (normal sets)) start size old new

-- a table that was read, written and read again is the same
unfoldable pub ReadsAgain : Type 0
ReadsAgain = (s : List ℕ) (t : ReadComplete) → read_complete s ≡ yields t
    → (start : ℕ) (old new : List ℕ) (r : Result ℕ Refusal) (size : ℕ)
    → WrittenIfRoom (write_table t.table.n t.table.sets) start old new r → outcome r ≡ yields size
    → ReadsBack t.table start size old new

-- a table that was read meets no refusal of the writer's but 14: these are the bytes that are due
unfoldable pub ReadIsWritten : Type 0
ReadIsWritten = (s : List ℕ) (t : ReadComplete) → read_complete s ≡ yields t
    → write_table t.table.n t.table.sets ≡ yields (table_bytes t.table.n t.table.sets)
