-- What the result of the reader says.
use Rattle.std.specs.Prelude.{List, ℕ, drop, Result}
use Rattle.drive_sets.specs.declared.Refusal.{Refusal}
use Rattle.drive_sets.specs.Refusals.{Outcome, outcome_by}
use Rattle.complete_tables.specs.Complete.{sets_of}
use Rattle.table_files.specs.declared.reading.TableRead.{TableRead}
use Rattle.table_files.specs.Files.{ReadTable}

-- of a reader of the bytes s
abbrev pub read_outcome : Result TableRead Refusal → List ℕ → Outcome ReadTable
read_outcome r s = outcome_by (λ t. record { n = t.table.n; sets = sets_of t.table; rest = drop t.used s }) r
