-- What is printed, a file or a refusal's line, fits: a list has at most 128 masks.
use mathlib.Core.Path.{◌≡◌, refl, sym, ap, ◌∙◌}
use mathlib.Core.List.{List}
use Prim.Native.Nat.{ℕ, ◌≤◌}
use native.Mathlib.Omega.{arith}
use lib.ListN.{length}
use Rattle.drive_sets.specs.Bools.Laws.{by_test, cond_true, cond_false}
use Rattle.drive_sets.specs.Limits.{max_sets, max_text}
use Rattle.drive_sets.specs.Refusals.{Outcome, refused, yields}
use Rattle.drive_sets.specs.Refusals.Laws.{same_result, first_result}
use Rattle.survivor_tables.specs.declared.frames.MaskKind.{MaskKind}
use Rattle.survivor_tables.specs.declared.frames.MaskKind.TheVariants.{SurvivorSet, FaultGroup}
use Rattle.survivor_tables.proofs.Tables.Laws.{accepted_normal}
use Rattle.table_files.specs.Files.{read_whole, file_bytes, table_bytes}
use Rattle.table_writing.proofs.Writes.{length_file}
use Rattle.fault_lists.specs.FaultLists.{rests, table_from_faults, faults_from_table}
use Rattle.fault_lists.proofs.FaultLists.Laws.{from_faults, table_list, list_again}
use Rattle.fault_files.specs.FaultFiles.{read_faults, fault_bytes, write_faults_from}
use Rattle.text.specs.Printing.{printed}
use Rattle.text.proofs.Lengths.{refusal_length}
use Rattle.convert_files.specs.ConvertFiles.{is_fault_list, write_table_from, table_file, fault_file, convert_file, convert_program}

short : (kind : MaskKind) (n : ℕ) (masks : List ℕ) {file : List ℕ} → file_bytes kind n masks ≡ file → length masks ≤ max_sets → length file ≤ max_text
short kind n masks e few = omega (arith, ap length e, length_file kind n masks, few)

table_short : (s : List ℕ) {file : List ℕ} → table_file s ≡ yields file → length file ≤ max_text
unfolding table_file write_table_from
table_short s e =
    let read = first_result (read_faults s) _ e in
    let l = read.0 in
    let made = first_result (table_from_faults l.n l.sets) (λ table. yields (table_bytes l.n table)) read.2 in
    let w = from_faults l.n l.sets made.1 in
    short SurvivorSet l.n made.0 (same_result made.2) (omega (arith, ap length w.is, (accepted_normal l.n (rests l.n l.sets) w.accepted).most))

fault_short : (s : List ℕ) {file : List ℕ} → fault_file s ≡ yields file → length file ≤ max_text
unfolding fault_file write_faults_from
fault_short s e =
    let read = first_result (read_whole s) _ e in
    let t = read.0 in
    let made = first_result (faults_from_table t.n t.sets) (λ groups. yields (fault_bytes t.n groups)) read.2 in
    short FaultGroup t.n made.0 (same_result made.2) (list_again t.n made.0 (table_list t.n t.sets made.1).1).0.most

pub program_length : (input : List ℕ) → length (convert_program input) ≤ max_text
unfolding convert_program convert_file
program_length input = go (convert_file input) refl
  where
    go : (o : Outcome (List ℕ)) → convert_file input ≡ o → length (printed o) ≤ max_text
    go (refused r) e = refusal_length r
    go (yields file) e =
        by_test (is_fault_list input)
        (λ is. table_short input (sym (cond_true _ _ is) ∙ e))
        (λ no. fault_short input (sym (cond_false _ _ no) ∙ e))
