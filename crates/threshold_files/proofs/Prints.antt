-- What is printed, a file or a refusal's line, fits.
use mathlib.Core.Path.{◌≡◌, refl, ap}
use mathlib.Core.List.{List}
use Prim.Native.Nat.{ℕ, ◌≤◌}
use native.Mathlib.Omega.{arith}
use lib.Dec.{ltb}
use lib.ListN.{length, get_or}
use Rattle.drive_sets.specs.declared.Refusal.TheVariants.{EndsTooSoon, TrailingBytes}
use Rattle.drive_sets.specs.Limits.{max_text}
use Rattle.drive_sets.specs.Refusals.{Outcome, refused, yields}
use Rattle.drive_sets.specs.Refusals.Laws.{same_result, first_result, passed}
use Rattle.survivor_tables.specs.Order.Normal.{length_normal}
use Rattle.survivor_tables.specs.declared.frames.MaskKind.TheVariants.{SurvivorSet}
use Rattle.survivor_tables.specs.Tables.{normal_table}
use Rattle.survivor_tables.proofs.Tables.Laws.{table_accepted}
use Rattle.table_files.specs.Files.{table_bytes}
use Rattle.table_writing.specs.Writing.{write_table}
use Rattle.table_writing.proofs.Writes.{length_file}
use Rattle.text.specs.Printing.{printed}
use Rattle.text.proofs.Lengths.{refusal_length}
use Rattle.threshold.specs.Threshold.{threshold_list}
use Rattle.threshold_files.specs.ThresholdFiles.{threshold_file, asked, threshold_program}

-- ---- how long it can be

file_length : (n t : ℕ) (file : List ℕ) → threshold_file n t ≡ yields file → length file ≤ max_text
unfolding threshold_file write_table
file_length n t file e =
    let sets = first_result (threshold_list n t) (write_table n) e in
    let table = first_result (normal_table n sets.0) (λ table. yields (table_bytes n table)) sets.2 in
    let accepted = table_accepted n sets.0 table.0 table.1 in
    omega (arith, ap length (same_result table.2), length_file SurvivorSet n table.0, ap length accepted.1, length_normal sets.0, accepted.0.most)

asked_length : (input file : List ℕ) → asked input ≡ yields file → length file ≤ max_text
unfolding asked
asked_length input file e =
    let enough = passed (ltb (length input) 2) EndsTooSoon _ e in
    let two = passed (ltb 2 (length input)) TrailingBytes _ enough.1 in
    file_length (get_or input 0 0) (get_or input 1 0) file two.1

pub program_length : (input : List ℕ) → length (threshold_program input) ≤ max_text
unfolding threshold_program
program_length input = go (asked input) refl
  where
    go : (o : Outcome (List ℕ)) → asked input ≡ o → length (printed o) ≤ max_text
    go (refused r) e = refusal_length r
    go (yields file) e = asked_length input file e
