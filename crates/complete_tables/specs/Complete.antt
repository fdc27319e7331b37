-- A normal table with its cores, and what the result of a call says that gives both.
use Rattle.std.specs.Prelude.{List, ℕ, ltb, length, Result}
use Rattle.drive_sets.specs.declared.Refusal.{Refusal}
use Rattle.drive_sets.specs.declared.Refusal.TheVariants.{TooManyCores}
use Rattle.drive_sets.specs.Refusals.{Outcome, yields, refuse_if, and_then, outcome_by}
use Rattle.complete_tables.specs.declared.TableWithCores.{TableWithCores}
use Rattle.drive_sets.specs.Limits.{max_cores}
use Rattle.survivor_tables.specs.Tables.{cores, within_core_limit, normal_table}
use Rattle.survivor_tables.specs.declared.frames.Table.{Table}

-- the sets of a table as it is held
abbrev pub sets_of : Table → List ℕ
sets_of t = t.sets.items

pub record Complete : Type 0 where
  pub n : ℕ
  pub sets : List ℕ
  pub cores : List ℕ

-- a normal table, and its cores
unfoldable pub with_cores : ℕ → List ℕ → Complete
with_cores n table = record { n = n; sets = table; cores = cores table }

-- the same where there are at most 1024; else 13
unfoldable pub complete_normal : ℕ → List ℕ → Outcome Complete
complete_normal n table = refuse_if (ltb max_cores (length (cores table))) TooManyCores (yields (with_cores n table))

-- the normal table of some sets, with its cores; 13 where there are more than 1024
unfoldable pub complete_sets : ℕ → List ℕ → Outcome Complete
complete_sets n sets = and_then (within_core_limit sets) (λ table. yields (with_cores n table))

-- the same after the refusals of a call given n and sets
unfoldable pub complete_table : ℕ → List ℕ → Outcome Complete
complete_table n sets = and_then (normal_table n sets) (λ table. yields (with_cores n table))

-- what a table that is held says, and what the result of a call says that gives one
abbrev pub complete_of : TableWithCores → Complete
complete_of t = record { n = t.table.n; sets = sets_of t.table; cores = t.cores.items }

abbrev pub complete_outcome : Result TableWithCores Refusal → Outcome Complete
complete_outcome r = outcome_by complete_of r
