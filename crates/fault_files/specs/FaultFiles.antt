-- Fault lists as bytes: FR with n, 1 to 128 FL with a mask, EN with their count, and nothing more. Document 02 (vi).
use Rattle.std.specs.Prelude.{List, [], ℕ, Result}
use Rattle.drive_sets.specs.declared.Refusal.{Refusal}
use Rattle.drive_sets.specs.Refusals.{Outcome, yields, and_then, outcome_by}
use Rattle.survivor_tables.specs.declared.frames.Table.{Table}
use Rattle.survivor_tables.specs.declared.frames.MaskKind.TheVariants.{FaultGroup}
use Rattle.survivor_tables.specs.Tables.{within_core_limit}
use Rattle.complete_tables.specs.Complete.{sets_of}
use Rattle.table_files.specs.Files.{ReadTable, read_all, file_bytes}
use Rattle.fault_lists.specs.FaultLists.{rests, largest, fault_list, faults_from_table}
pub mod Laws

-- ---- reading

-- the fault list in normal form; 13 comes last, where its survivor sets have more than 1024 cores
unfoldable pub accepted_faults : ReadTable → Outcome ReadTable
accepted_faults t = and_then (within_core_limit (rests t.n t.sets)) (λ table. yields (record { n = t.n; sets = largest t.sets; rest = t.rest }))

-- a fault list and nothing more: bytes after the end meet 7
unfoldable pub read_faults : List ℕ → Outcome ReadTable
read_faults s = read_all FaultGroup accepted_faults s

-- ---- writing

abbrev pub fault_bytes : ℕ → List ℕ → List ℕ
fault_bytes = file_bytes FaultGroup

-- the bytes of the fault list in normal form, after the refusals of a call given n and groups
unfoldable pub write_faults : ℕ → List ℕ → Outcome (List ℕ)
write_faults n groups = and_then (fault_list n groups) (λ list. yields (fault_bytes n list))

-- the bytes of the fault list of a table, after the refusals of a call given n and sets
unfoldable pub write_faults_from : ℕ → List ℕ → Outcome (List ℕ)
write_faults_from n sets = and_then (faults_from_table n sets) (λ list. yields (fault_bytes n list))

-- ---- what the result of the reader says

abbrev pub faults_outcome : Result Table Refusal → Outcome ReadTable
faults_outcome r = outcome_by (λ list. record { n = list.n; sets = sets_of list; rest = [] }) r
