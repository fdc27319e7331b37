-- Tables from a file, with their cores: what is read, and the bytes behind it.
use Rattle.std.specs.Prelude.{List, ℕ}
use Rattle.drive_sets.specs.Refusals.{Outcome, refused, yields, and_then}
use Rattle.complete_tables.specs.Complete.{Complete, with_cores, complete_sets}
use Rattle.table_files.specs.Files.{ReadTable, read_table, read_whole}

-- what is listed, made complete
abbrev pub completed : ReadTable → Outcome Complete
completed t = complete_sets t.n t.sets

-- what is read where more stands behind: the table with its cores, and the bytes after EN
pub record ReadComplete : Type 0 where
  pub table : Complete
  pub rest : List ℕ

unfoldable pub read_with_cores : ReadTable → Outcome ReadComplete
read_with_cores t = yields (record { table = with_cores t.n t.sets; rest = t.rest })

unfoldable pub read_complete : List ℕ → Outcome ReadComplete
read_complete s = and_then (read_table s) read_with_cores

-- the table of what is read
abbrev pub table_read : Outcome ReadComplete → Outcome Complete
table_read o = and_then o (λ r. yields r.table)

-- the caller's slice afterwards: the bytes after EN, and on a refusal as it was
abbrev pub rest_after : Outcome ReadComplete → List ℕ → List ℕ
rest_after (refused q) old = old
rest_after (yields r) old = r.rest

-- a table and nothing more
unfoldable pub read_whole_complete : List ℕ → Outcome Complete
read_whole_complete s = and_then (read_whole s) (λ t. yields (with_cores t.n t.sets))
