-- What a file is converted to is of the other kind and reads back as that; converting there and back gives the file in
-- normal form, for every file; and what stands behind the first 4096 bytes of an input changes nothing.
use Rattle.std.specs.Prelude.{◌≡◌, true, false, cond, List, [], ℕ, ◌-◌, ◌≤◌, length, take, drop}
use Rattle.std.proofs.Common.{sym, ap, ap₂, ◌∙◌, arith}
use Rattle.drive_sets.specs.Bools.Laws.{by_test, cond_true, cond_false}
use Rattle.drive_sets.specs.Limits.{max_input}
use Rattle.drive_sets.specs.Refusals.{Outcome, yields, and_then}
use Rattle.drive_sets.specs.Refusals.Laws.{first_result, then_same, then_assoc}
use Rattle.records.specs.declared.Kind.{Kind}
use Rattle.records.specs.declared.Kind.TheVariants.{Fault}
use Rattle.records.specs.Fields.{from_bytes}
use Rattle.records.specs.Marks.{ascii, mark_text, mark, is_kind, kind_at}
use Rattle.records.specs.RecordLists.Prefixes.{drop_prefix, kind_prefix}
use Rattle.survivor_tables.specs.declared.frames.MaskKind.TheVariants.{SurvivorSet, FaultGroup}
use Rattle.survivor_tables.specs.Order.{normal}
use Rattle.survivor_tables.specs.Order.Normal.{normal_idempotent}
use Rattle.survivor_tables.specs.Tables.{normal_table}
use Rattle.survivor_tables.proofs.Tables.Laws.{accepted_table, accepted_normal}
use Rattle.table_files.specs.Files.{ReadTable, record_of, accepted, read_whole, table_bytes}
use Rattle.table_files.specs.Files.Laws.{kind_behind, whole_table, table_read_law, whole_written}
use Rattle.table_files.specs.Files.Prefixes.{all_prefix}
use Rattle.fault_lists.specs.FaultLists.{rests, largest, table_from_faults, fault_list, faults_from_table}
use Rattle.fault_lists.proofs.FaultLists.Laws.{from_faults, faults_back, table_list, list_again}
use Rattle.fault_files.specs.FaultFiles.{accepted_faults, read_faults, fault_bytes, write_faults_from}
use Rattle.fault_files.specs.FaultFiles.Laws.{faults_written, faults_read}
use Rattle.text.specs.Printing.{printed}
use Rattle.convert_files.specs.ConvertFiles.{is_fault_list, write_table_from, table_file, fault_file, convert_file, normal_file, convert_program}

-- ---- which list a file is

faults_known : (n : ℕ) (groups : List ℕ) → 1 ≤ length groups → is_fault_list (fault_bytes n groups) ≡ true
unfolding is_fault_list record_of is_kind mark mark_text ascii from_bytes
faults_known n groups some = ap (is_kind Fault) (kind_behind FaultGroup n groups some)

table_known : (n : ℕ) (sets : List ℕ) → 1 ≤ length sets → is_fault_list (table_bytes n sets) ≡ false
unfolding is_fault_list record_of is_kind mark mark_text ascii from_bytes
table_known n sets some = ap (is_kind Fault) (kind_behind SurvivorSet n sets some)

-- a table that is read is its own normal table
read_normal : (s : List ℕ) (t : ReadTable) → read_whole s ≡ yields t → normal_table t.n t.sets ≡ yields t.sets
read_normal s t read =
    let own = table_read_law s t (whole_table s t read).0 in
    rw own.2 (accepted_table t.n (normal own.0) (accepted_normal t.n own.0 own.1) ∙ ap yields (normal_idempotent own.0))

-- ---- what a file is converted to, and that it reads back as that

-- a fault list that is read has a table
pub faults_made : (s : List ℕ) (l : ReadTable) → read_faults s ≡ yields l
    → (table : List ℕ) × (table_from_faults l.n l.sets ≡ yields table) × (write_table_from l.n l.sets ≡ yields (table_bytes l.n table))
    × (is_fault_list (table_bytes l.n table) ≡ false) × (read_whole (table_bytes l.n table) ≡ yields (record { n = l.n; sets = table; rest = [] }))
unfolding fault_list write_table_from
faults_made s l read =
    let made = first_result (table_from_faults l.n l.sets) (λ table. yields (largest l.sets)) (faults_read s read).0 in
    let w = from_faults l.n l.sets made.1 in
    let sets = rests l.n l.sets in
    let table = made.1 ∙ ap yields w.is in (
      normal sets,
      table,
      ap (λ (o : Outcome (List ℕ)). and_then o (λ t. yields (table_bytes l.n t))) table,
      table_known l.n (normal sets) (accepted_normal l.n sets w.accepted).some,
      whole_written l.n sets w.accepted,
    )

-- a table that is read has a fault list
pub table_made : (s : List ℕ) (t : ReadTable) → read_whole s ≡ yields t
    → (groups : List ℕ) × (faults_from_table t.n t.sets ≡ yields groups) × (write_faults_from t.n t.sets ≡ yields (fault_bytes t.n groups))
    × (is_fault_list (fault_bytes t.n groups) ≡ true) × (read_faults (fault_bytes t.n groups) ≡ yields (record { n = t.n; sets = groups; rest = [] }))
unfolding faults_from_table write_faults_from
table_made s t read =
    let groups = largest (rests t.n t.sets) in
    let made : faults_from_table t.n t.sets ≡ yields groups = ap (λ (o : Outcome (List ℕ)). and_then o (λ table. yields (largest (rests t.n table)))) (read_normal s t read) in
    let list = (table_list t.n t.sets made).1 in (
      groups,
      made,
      ap (λ (o : Outcome (List ℕ)). and_then o (λ l. yields (fault_bytes t.n l))) made,
      faults_known t.n groups (list_again t.n groups list).0.some,
      faults_written t.n groups list,
    )

-- ---- there and back

faults_there_and_back : (s : List ℕ) (l : ReadTable) → read_faults s ≡ yields l → and_then (write_table_from l.n l.sets) convert_file ≡ yields (fault_bytes l.n l.sets)
unfolding convert_file fault_file write_faults_from
faults_there_and_back s l read =
    let made = faults_made s l read in
    ap (λ (o : Outcome (List ℕ)). and_then o convert_file) made.2
    ∙ (cond_false _ _ made.3
    ∙ (ap (λ (o : Outcome ReadTable). and_then o (λ t. write_faults_from t.n t.sets)) made.4
    ∙ ap (λ (o : Outcome (List ℕ)). and_then o (λ groups. yields (fault_bytes l.n groups)))
    (sym (ap (λ (o : Outcome (List ℕ)). and_then o (faults_from_table l.n)) made.1) ∙ (faults_back l.n l.sets ∙ (faults_read s read).0))))

table_there_and_back : (s : List ℕ) (t : ReadTable) → read_whole s ≡ yields t → and_then (write_faults_from t.n t.sets) convert_file ≡ yields (table_bytes t.n t.sets)
unfolding convert_file table_file write_table_from
table_there_and_back s t read =
    let made = table_made s t read in
    ap (λ (o : Outcome (List ℕ)). and_then o convert_file) made.2
    ∙ (cond_true _ _ made.3
    ∙ (ap (λ (o : Outcome ReadTable). and_then o (λ l. write_table_from l.n l.sets)) made.4
    ∙ ap (λ (o : Outcome (List ℕ)). and_then o (λ table. yields (table_bytes t.n table))) ((table_list t.n t.sets made.1).0 ∙ read_normal s t read)))

pub there_and_back : (s : List ℕ) → and_then (convert_file s) convert_file ≡ normal_file s
unfolding convert_file table_file fault_file normal_file
there_and_back s =
    by_test (is_fault_list s)
    (λ is. ap (λ (o : Outcome (List ℕ)). and_then o convert_file) (cond_true _ _ is)
    ∙ (then_assoc (read_faults s) (λ l. write_table_from l.n l.sets) convert_file ∙ (then_same (read_faults s) (faults_there_and_back s) ∙ sym (cond_true _ _ is))))
    (λ no. ap (λ (o : Outcome (List ℕ)). and_then o convert_file) (cond_false _ _ no)
    ∙ (then_assoc (read_whole s) (λ t. write_faults_from t.n t.sets) convert_file ∙ (then_same (read_whole s) (table_there_and_back s) ∙ sym (cond_false _ _ no))))

-- ---- the bytes that matter

pub convert_program_prefix : (s : List ℕ) → convert_program (take max_input s) ≡ convert_program s
unfolding convert_program convert_file is_fault_list table_file fault_file read_faults read_whole
convert_program_prefix s =
    ap (λ (k : Kind). program k (read_faults (take max_input s)) (read_whole (take max_input s))) (ap kind_at (drop_prefix 3 max_input s) ∙ kind_prefix (max_input - 3) (drop 3 s) (omega arith))
    ∙ ap₂ (program (kind_at (drop 3 s))) (all_prefix FaultGroup accepted_faults s) (all_prefix SurvivorSet accepted s)
  where
    program : Kind → Outcome ReadTable → Outcome ReadTable → List ℕ
    program kind faults table =
        printed (cond (is_kind Fault kind) (and_then faults (λ l. write_table_from l.n l.sets)) (and_then table (λ t. write_faults_from t.n t.sets)))
