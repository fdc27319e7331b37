-- The table's refusal, or the file behind it with the chosen core.
use mathlib.Core.Path.{sym}
use Rattle.std.proofs.lemmas.Result.{err_from_is_err_and}
use Rattle.survivor_tables.proofs.Tables.Laws.{core_given}
use Rattle.run_files.specs.RunFiles.{read_run_file}
use Rattle.run_files.specs.Reading.{run_file_outcome}
use Rattle.run_files.proofs.reading.read_run_file.Goals as goal

pub returns-in_err-core : goal.returns-in_err-core
unfolding run_file_outcome read_run_file
returns-in_err-core c =
    let e = err_from_is_err_and c.from_residual.result c.from_residual.ensures.1 in
    rw (e.1, e.2, ← c.in_err-core.ensures)

pub read_behind-requires : goal.read_behind-requires
read_behind-requires c = (core_given _ _ (sym c.in_ok-core.ensures)).0.high

pub returns : goal.returns
unfolding run_file_outcome read_run_file
returns c = rw (c.read_behind.ensures, ← c.in_ok-core.ensures)
