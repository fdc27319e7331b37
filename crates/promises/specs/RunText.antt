-- What the run program prints where its input is not refused. Document 01: "A drive with a CR prints `stopped`, even if
-- it decided before. The last line has the core and f." Every other drive prints the agreed number and a round from 1
-- to f + 1, so that `undecided` is never printed.
use Rattle.std.specs.Prelude.{◌≡◌, true, List, ◌++◌, ◌⊎◌, ◌↔◌, ℕ, length}
use Rattle.drive_sets.specs.Counts.{is_drive}
use Rattle.drive_sets.specs.Lists.{elem}
use Rattle.drive_sets.specs.Refusals.{yields}
use Rattle.table_files.specs.Files.{ReadTable, read_table}
use Rattle.runs.specs.Statement.{last_round}
use Rattle.runs.specs.CrashRecords.{scenario, drives_of}
use Rattle.agreement.specs.RoundEndings.{stopped}
use Rattle.run_files.specs.RunFiles.{RunFile, read_run_file}
use Rattle.records.specs.Fields.{Bytes}
use Rattle.simulation.specs.Simulation.{Simulated}
use Rattle.run_listing.specs.RunListing.{ending_lines, core_line, simulated_file, run_program}
use Rattle.promises.specs.Exchange.{ending_in, DecidesBy, ExchangeGives}

pub record RunPrints (input : List ℕ) (r : Simulated) : Type 0 where
  -- the table that is read, and the run file behind it
  pub table : ReadTable
  pub table_read_law : read_table input ≡ yields table
  pub file : RunFile
  pub file_read : read_run_file table.n table.sets table.rest ≡ yields file
  -- what is simulated: the pattern numbers and the CR records of the file
  pub exchange : ExchangeGives (scenario table.n table.sets file.numbers file.crashes) r
  -- the text: a line for each drive of the frame, then the core and f
  pub text : run_program input ≡ ending_lines 1 r.endings ++ core_line r.core r.stops
  pub many : length r.endings ≡ table.n
  -- each drive is stopped, or decides on the one number in a round from 1 to f + 1
  pub each : (d : ℕ) → is_drive table.n d ≡ true
      → (ending_in r.endings d ≡ stopped) ⊎ DecidesBy (last_round (scenario table.n table.sets file.numbers file.crashes)) exchange.value (ending_in r.endings d)
  -- stopped are exactly the drives with a CR in the file
  pub stopped_are : (d : ℕ) → is_drive table.n d ≡ true → (ending_in r.endings d ≡ stopped) ↔ (elem d (drives_of file.crashes) ≡ true)

-- for every input of bytes
unfoldable pub RunTextOfFile : Type 0
RunTextOfFile = (input : List ℕ) → Bytes input → (r : Simulated) → simulated_file input ≡ yields r → RunPrints input r
