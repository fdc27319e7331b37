-- The writers: a list of masks as it is handed over, and of tables the normal table.
use Rattle.std.specs.Prelude.{List, ℕ, ltb, length}
use Rattle.drive_sets.specs.declared.Refusal.TheVariants.{TooManySets}
use Rattle.drive_sets.specs.Limits.{max_sets}
use Rattle.drive_sets.specs.Refusals.{Outcome, yields, refuse_if, and_then}
use Rattle.survivor_tables.specs.declared.frames.MaskKind.{MaskKind}
use Rattle.survivor_tables.specs.Tables.{normal_table}
use Rattle.table_files.specs.Files.{file_bytes, table_bytes}

-- the bytes of a list of at most 128 masks
unfoldable pub write_list : MaskKind → ℕ → List ℕ → Outcome (List ℕ)
write_list kind n masks = refuse_if (ltb max_sets (length masks)) TooManySets (yields (file_bytes kind n masks))

-- the bytes of the normal table, after the refusals of a call given n and sets
unfoldable pub write_table : ℕ → List ℕ → Outcome (List ℕ)
write_table n sets = and_then (normal_table n sets) (λ table. yields (table_bytes n table))
