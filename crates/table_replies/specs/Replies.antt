-- The reply of a reader as a struct of numbers, from what the library's definitions give: the values of a result with
-- refusal 0, and beside a refusal zeros.
use Rattle.std.specs.Prelude.{List, ℕ, ◌-◌, length}
use Rattle.drive_sets.specs.Refusals.{Outcome, refused, yields, and_then}
use Rattle.drive_sets.specs.Lent.{fitting}
use Rattle.table_files.specs.Files.{ReadTable}
use Rattle.table_replies.specs.declared.reading.TableReply.{TableReply}
pub mod Laws

-- a table whose sets are put into a lent list; 14 where it has too few places
unfoldable pub fitting_table : List ℕ → Outcome ReadTable → Outcome ReadTable
fitting_table old o = and_then o (λ t. and_then (fitting 0 (length old) t.sets) (λ sets. yields t))

-- its sets
abbrev pub sets_read : Outcome ReadTable → Outcome (List ℕ)
sets_read o = and_then o (λ t. yields t.sets)

-- what is told of a table that some bytes begin with: how many its sets and drives are, and the bytes that it took
abbrev pub table_reply : List ℕ → Outcome ReadTable → TableReply
table_reply s (refused r) = record { count = 0; used = 0; refusal = r; n = 0 }
table_reply s (yields t) = record { count = length t.sets; used = length s - length t.rest; refusal = 0; n = t.n }
