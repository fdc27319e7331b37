-- The numbers, then the records after them.
use mathlib.Core.Path.{◌∙◌}
use lib.Seq.{drop-drop}
use borrow.Author.Tests.{le-ltb}
use Rattle.std.proofs.lemmas.Result.{err_from_is_err_and}
use Rattle.drive_sets.specs.Bools.Laws.{cond_false}
use Rattle.records.proofs.Parts.{rest_is}
use Rattle.proposal_lists.specs.Reading.{proposals_outcome}
use Rattle.crash_lists.specs.Reading.{crashes_outcome}
use Rattle.run_files.specs.RunFiles.{read_records}
use Rattle.run_files.specs.Reading.{records_outcome}
use Rattle.run_files.proofs.reading.read_records.Goals as goal

pub returns-in_err-given-clause-value : goal.returns-in_err-given-clause-value
unfolding records_outcome read_records proposals_outcome
returns-in_err-given-clause-value c =
    let e = err_from_is_err_and c.from_residual.result c.from_residual.ensures.1 in
    rw (e.1, e.2, ← (c.in_err-given.ensures.value ∙ cond_false _ _ (le-ltb _ _ c.requires)))

pub returns-in_err-listed-clause-value : goal.returns-in_err-listed-clause-value
unfolding records_outcome read_records proposals_outcome crashes_outcome
returns-in_err-listed-clause-value c =
    let s = c.args.s.now in
    let at = c.in_ok-given.given.used in
    let frame = le-ltb _ _ c.requires in
    let e = err_from_is_err_and c.from_residual-in_err-listed.result c.from_residual-in_err-listed.ensures.1 in
    rw (e.1, e.2, ← (c.in_ok-given.ensures.value ∙ cond_false _ _ frame), ← rest_is s at, ← (c.in_err-listed.ensures.value ∙ cond_false _ _ frame))

pub returns-clause-value : goal.returns-clause-value
unfolding records_outcome read_records proposals_outcome crashes_outcome
returns-clause-value c =
    let s = c.args.s.now in
    let at = c.in_ok-given.given.used in
    let frame = le-ltb _ _ c.requires in
    rw (← (c.in_ok-given.ensures.value ∙ cond_false _ _ frame), ← rest_is s at, ← (c.in_ok-listed.ensures.value ∙ cond_false _ _ frame), rest_is s at, drop-drop c.in_ok-listed.listed.used at s)
