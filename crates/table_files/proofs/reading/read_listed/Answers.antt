-- FR, its drives, then the sets.
use Rattle.std.proofs.Common.{ap, arith, length, length-drop}
use lib.Seq.{drop-drop}
use Rattle.std.proofs.lemmas.Result.{err_from_is_err_and}
use Rattle.records.proofs.Lists.{first_byte}
use Rattle.records.proofs.Parts.{rest_is}
use Rattle.table_files.specs.Files.{read_listed}
use Rattle.table_files.proofs.Steps.{frame_whole}
use Rattle.table_files.proofs.reading.read_listed.Goals as goal

pub returns-in_err-read_head-clause-value : goal.returns-in_err-read_head-clause-value
unfolding read_listed
returns-in_err-read_head-clause-value c =
    let p = err_from_is_err_and c.from_residual.result c.from_residual.ensures.1 in
    rw (p.1, p.2, ← c.in_err-read_head.ensures)

pub bounds-s-2 : goal.bounds-s-2
bounds-s-2 c = omega (arith, frame_whole c.args.s.now _ c.in_ok-read_head.ensures)

pub returns-then-not-is_frame-clause-value : goal.returns-then-not-is_frame-clause-value
unfolding read_listed
returns-then-not-is_frame-clause-value c =
    let e = c.in_ok-read_head.ensures in
    rw (← e, ← first_byte _ 2 (frame_whole _ _ e), ← c.is_frame.ensures, c.if-not-is_frame.true)

pub slice_bounds-read_records-count : goal.slice_bounds-read_records-count
slice_bounds-read_records-count c = omega (arith, frame_whole c.args.s.now _ c.in_ok-read_head.ensures)

pub slice_bounds-read_records-start : goal.slice_bounds-read_records-start
slice_bounds-read_records-start c = omega (arith, frame_whole c.args.s.now _ c.in_ok-read_head.ensures)

pub returns-in_err-used-clause-value : goal.returns-in_err-used-clause-value
unfolding read_listed
returns-in_err-used-clause-value c =
    let e = c.in_ok-read_head.ensures in
    let p = err_from_is_err_and c.from_residual-in_err-used.result c.from_residual-in_err-used.ensures.1 in
    let v = rw (rest_is c.args.s.now 3, c.new.ensures) at c.in_err-used.ensures.value in
    rw (p.1, p.2, ← e, ← first_byte _ 2 (frame_whole _ _ e), ← c.is_frame.ensures, c.if-not-is_frame.false, ← v)

pub returns-clause-value : goal.returns-clause-value
unfolding read_listed
returns-clause-value c =
    let e = c.in_ok-read_head.ensures in
    let v = rw (rest_is c.args.s.now 3, c.new.ensures, drop-drop c.in_ok-used.used 3 c.args.s.now) at c.in_ok-used.ensures.value in
    rw (← e, ← first_byte _ 2 (frame_whole _ _ e), ← c.is_frame.ensures, c.if-not-is_frame.false, ← v)

pub returns-clause-within : goal.returns-clause-within
returns-clause-within c = omega (arith, frame_whole c.args.s.now _ c.in_ok-read_head.ensures, c.in_ok-used.ensures.within, ap length (rest_is c.args.s.now 3), length-drop 3 c.args.s.now)
