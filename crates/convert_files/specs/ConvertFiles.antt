-- The convert program: from the file of a fault list to that of its table, and from the file of a table to that of its
-- fault list, or the line of a refusal. Document 02 (vi): "We convert both ways."
use Rattle.std.specs.Prelude.{Bool, cond, List, ℕ, drop}
use Rattle.drive_sets.specs.Refusals.{Outcome, yields, and_then}
use Rattle.records.specs.declared.Kind.TheVariants.{Fault}
use Rattle.records.specs.Marks.{is_kind, kind_at}
use Rattle.table_files.specs.Files.{read_whole, table_bytes}
use Rattle.fault_lists.specs.FaultLists.{table_from_faults}
use Rattle.fault_files.specs.FaultFiles.{read_faults, fault_bytes, write_faults_from}
use Rattle.text.specs.Printing.{printed}
pub mod Laws

-- a file is a fault list where an FL stands behind its FR; every other is read as a table
unfoldable pub is_fault_list : List ℕ → Bool
is_fault_list s = is_kind Fault (kind_at (drop 3 s))

-- the bytes of the normal table of a fault list
unfoldable pub write_table_from : ℕ → List ℕ → Outcome (List ℕ)
write_table_from n groups = and_then (table_from_faults n groups) (λ table. yields (table_bytes n table))

-- the file of the normal table of a fault list
unfoldable pub table_file : List ℕ → Outcome (List ℕ)
table_file s = and_then (read_faults s) (λ l. write_table_from l.n l.sets)

-- the file of the fault list of a table
unfoldable pub fault_file : List ℕ → Outcome (List ℕ)
fault_file s = and_then (read_whole s) (λ t. write_faults_from t.n t.sets)

unfoldable pub convert_file : List ℕ → Outcome (List ℕ)
convert_file s =
    let table = table_file s in
    let faults = fault_file s in
    cond (is_fault_list s) table faults

-- the file itself in normal form
unfoldable pub normal_file : List ℕ → Outcome (List ℕ)
normal_file s =
    let faults = and_then (read_faults s) (λ l. yields (fault_bytes l.n l.sets)) in
    let table = and_then (read_whole s) (λ t. yields (table_bytes t.n t.sets)) in
    cond (is_fault_list s) faults table

-- what the convert program prints for the bytes on its input
unfoldable pub convert_program : List ℕ → List ℕ
convert_program input = printed (convert_file input)
