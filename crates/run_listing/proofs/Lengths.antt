-- How long the text of the run program can be.
use mathlib.Core.Path.{◌≡◌, refl, ap, ◌∙◌}
use mathlib.Core.List.{List, [], ◌∷◌, ◌++◌}
use Prim.Native.Nat.{ℕ, suc, ◌*◌, ◌≤◌}
use native.Mathlib.Omega.{arith}
use lib.ListN.{length, length-append, length-map}
use Rattle.drive_sets.specs.Lists.Places.{length_range}
use Rattle.drive_sets.specs.Refusals.{Outcome, refused, yields}
use Rattle.drive_sets.specs.Refusals.Laws.{first_result}
use Rattle.records.specs.Marks.{ascii}
use Rattle.table_files.specs.Files.{read_table}
use Rattle.table_files.specs.Files.Laws.{table_read_law}
use Rattle.runs.specs.Scenario.{Scenario, frame}
use Rattle.runs.specs.CrashRecords.{scenario}
use Rattle.agreement.specs.RoundEndings.{Ending, decides, undecided, stopped, ending_of, endings}
use Rattle.run_files.specs.RunFiles.{read_run_file}
use Rattle.simulation.specs.Simulation.{Simulated}
use Rattle.simulation.specs.Simulation.Laws.{simulated_gives}
use Rattle.text.specs.declared.Base.TheVariants.{Decimal, Hexadecimal}
use Rattle.text.specs.Text.{named, line}
use Rattle.text.proofs.Lengths.{named_length, line_length, refusal_length}
use Rattle.run_listing.specs.RunListing.{ending_text, drive_line, ending_lines, core_line, run_text, simulated_with, simulated_file, run_program}
use Rattle.drive_sets.specs.Limits.{max_text}

ending_length : (e : Ending) → length (ending_text e) ≤ 56
unfolding ending_text ascii
ending_length (decides v r) =
    let first = named (ascii " decides") Decimal v in
    let second = named (ascii " round") Decimal r in
    omega (arith, length-append first second, named_length (ascii " decides") Decimal v, named_length (ascii " round") Decimal r)
ending_length undecided = omega arith
ending_length stopped = omega arith

drive_line_length : (d : ℕ) (e : Ending) → length (drive_line d e) ≤ 83
unfolding drive_line ascii
drive_line_length d e =
    let head = named (ascii "drive") Decimal d in
    omega (arith, length-append head (ending_text e ++ ascii "\n"), length-append (ending_text e) (ascii "\n"), named_length (ascii "drive") Decimal d, ending_length e)

endings_length : (d : ℕ) (es : List Ending) → length (ending_lines d es) ≤ 83 * length es
unfolding ending_lines
endings_length d [] = omega arith
endings_length d (e ∷ es) = omega (arith, length-append (drive_line d e) (ending_lines (suc d) es), drive_line_length d e, endings_length (suc d) es)

core_line_length : (core stops : ℕ) → length (core_line core stops) ≤ 53
unfolding core_line ascii
core_line_length core stops =
    let first = named (ascii "core") Hexadecimal core in
    let last = line (ascii " stops") Decimal stops in
    omega (arith, length-append first last, named_length (ascii "core") Hexadecimal core, line_length (ascii " stops") Decimal stops)

-- one ending for each drive
endings_count : (s : Scenario) → length (endings s) ≡ s.n
unfolding endings frame
endings_count s = length-map (frame s) (λ d. ending_of s (s.crash d) d) ∙ length_range 1 s.n

-- the text of the run program, whatever its input
pub run_program_length : (input : List ℕ) → length (run_program input) ≤ max_text
unfolding run_program simulated_with simulated_file scenario
run_program_length input = go (simulated_file input) refl
  where
    go : (o : Outcome Simulated) → simulated_file input ≡ o → length (run_text o) ≤ max_text
    go (refused r) e = refusal_length r
    go (yields r) e =
        let table = first_result (read_table input) _ e in
        let t = table.0 in
        let file = first_result (read_run_file t.n t.sets t.rest) _ table.2 in
        let f = file.0 in
        let given = simulated_gives t.n t.sets f.numbers f.crashes file.2 in
        let many = ap length (ap (λ (x : Simulated). x.endings) given) ∙ endings_count (scenario t.n t.sets f.numbers f.crashes) in
        omega (
          arith,
          many,
          (table_read_law input t table.1).1.high,
          length-append (ending_lines 1 r.endings) (core_line r.core r.stops),
          endings_length 1 r.endings,
          core_line_length r.core r.stops,
        )
