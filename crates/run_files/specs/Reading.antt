-- What the results of the run file reader say.
use Rattle.std.specs.Prelude.{List, ℕ, take, drop, Result}
use Rattle.drive_sets.specs.declared.Refusal.{Refusal}
use Rattle.drive_sets.specs.Refusals.{Outcome, outcome_by}
use Rattle.drive_states.specs.State.{values}
use Rattle.drive_crashes.specs.Crashes.{crashes_in}
use Rattle.run_files.specs.declared.reading.RunFile as files
use Rattle.run_files.specs.declared.reading.RunRecords.{RunRecords}
use Rattle.run_files.specs.RunFiles.{RunFile, ReadRun}

-- what a run file for n drives says
abbrev pub told : ℕ → files.RunFile → RunFile
told n f = record { numbers = take n (values f.numbers); crashes = crashes_in f.crashes }

-- the result of the reader of the records at the start of the bytes s
unfoldable pub records_outcome : ℕ → Result RunRecords Refusal → List ℕ → Outcome ReadRun
records_outcome n r s = outcome_by (λ (u : RunRecords). record { file = told n u.file; rest = drop u.used s }) r

-- the result of a reader of a run file for n drives
unfoldable pub run_file_outcome : ℕ → Result files.RunFile Refusal → Outcome RunFile
run_file_outcome n r = outcome_by (told n) r
