-- The text of the run program: how each drive ends, then the core and f. On a refusal only `refused` and its number.
use Rattle.std.specs.Prelude.{List, [], ◌∷◌, ◌++◌, ℕ, suc}
use Rattle.drive_sets.specs.Refusals.{Outcome, refused, yields, and_then}
use Rattle.records.specs.Marks.{ascii}
use Rattle.table_files.specs.Files.{ReadTable, read_table}
use Rattle.agreement.specs.RoundEndings.{Ending, decides, undecided, stopped}
use Rattle.run_files.specs.RunFiles.{RunFile, read_run_file}
use Rattle.simulation.specs.Simulation.{Simulated, simulated}
use Rattle.text.specs.declared.Base.TheVariants.{Decimal, Hexadecimal}
use Rattle.text.specs.Text.{named, line, refusal_line}
pub mod Prefixes

-- how a drive ends; a drive with a CR is stopped, even if it decided before, and no other stays undecided
-- (`simulated_agrees`)
unfoldable pub ending_text : Ending → List ℕ
ending_text (decides v r) = named (ascii " decides") Decimal v ++ named (ascii " round") Decimal r
ending_text undecided = ascii " undecided"
ending_text stopped = ascii " stopped"

unfoldable pub drive_line : ℕ → Ending → List ℕ
drive_line d e = named (ascii "drive") Decimal d ++ (ending_text e ++ ascii "\n")

-- a line for each drive, from drive d on
unfoldable pub ending_lines : ℕ → List Ending → List ℕ
ending_lines d [] = []
ending_lines d (e ∷ es) = drive_line d e ++ ending_lines (suc d) es

-- the last line: the core and f
unfoldable pub core_line : ℕ → ℕ → List ℕ
core_line core stops = named (ascii "core") Hexadecimal core ++ line (ascii " stops") Decimal stops

abbrev pub run_text : Outcome Simulated → List ℕ
run_text (refused r) = refusal_line r
run_text (yields s) = ending_lines 1 s.endings ++ core_line s.core s.stops

-- the simulated exchange of the run file behind a table, given what the table says
unfoldable pub simulated_with : ℕ → List ℕ → List ℕ → Outcome Simulated
simulated_with n sets rest = and_then (read_run_file n sets rest) (λ (f : RunFile). simulated n sets f.numbers f.crashes)

-- of a table and the run file behind it
unfoldable pub simulated_file : List ℕ → Outcome Simulated
simulated_file input = and_then (read_table input) (λ (t : ReadTable). simulated_with t.n t.sets t.rest)

-- what the run program prints for the bytes on its input
unfoldable pub run_program : List ℕ → List ℕ
run_program input = run_text (simulated_file input)
