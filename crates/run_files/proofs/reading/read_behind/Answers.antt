-- The records refused, bytes behind the end, every survivor set touched, or the file.
use Prim.Native.Nat.{◌^◌, ◌<◌}
use borrow.Author.Rules.{rules}
use Rattle.complete_tables.proofs.Completes.{rest_none, rest_some}
use Rattle.run_files.specs.RunFiles.{untouched_left, whole_run, read_behind}
use Rattle.run_files.specs.Reading.{records_outcome, run_file_outcome}
use Rattle.drive_crashes.specs.Crashes.Laws.{crashed_in}
use Rattle.std.proofs.lemmas.Result.{err_from_is_err_and}
use Rattle.run_files.proofs.reading.read_behind.Goals as goal

pub returns-in_err-read : goal.returns-in_err-read
unfolding run_file_outcome records_outcome read_behind
returns-in_err-read c =
    let e = err_from_is_err_and c.from_residual.result c.from_residual.ensures.1 in
    rw (e.1, e.2, ← c.in_err-read.ensures.value)

pub returns-then-read-s : goal.returns-then-read-s
unfolding run_file_outcome records_outcome read_behind whole_run
returns-then-read-s c = rw (← c.in_ok-read.ensures.value, rest_some _ _ c.if-read-s.true)

pub returns-then-is_none : goal.returns-then-is_none
unfolding run_file_outcome records_outcome read_behind whole_run untouched_left
returns-then-is_none c =
    let crashes = c.in_ok-read.read.file.crashes in
    let word : crashes.crashed < 2 ^ 64 = search rules in
    rw (← c.in_ok-read.ensures.value, rest_none _ _ c.if-read-s.false, crashed_in crashes word, ← c.first_missed.ensures, c.if-is_none.ensures)

pub returns : goal.returns
unfolding run_file_outcome records_outcome read_behind whole_run untouched_left
returns c =
    let crashes = c.in_ok-read.read.file.crashes in
    let word : crashes.crashed < 2 ^ 64 = search rules in
    rw (← c.in_ok-read.ensures.value, rest_none _ _ c.if-read-s.false, crashed_in crashes word, ← c.first_missed.ensures, c.if-is_none.ensures)
