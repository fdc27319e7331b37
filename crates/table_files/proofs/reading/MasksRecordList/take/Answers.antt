-- One record: refused, the end, no room, a mask that meets something, or one that is listed.
use Rattle.std.proofs.Common.{refl, sym, arith}
use Rattle.std.proofs.lemmas.Result.{err_from_is_err_and}
use Rattle.std.proofs.lemmas.Bool.{le-leb, lt-leb}
use Rattle.records.specs.RecordLists.{step_of}
use Rattle.table_files.specs.Files.{taken_mask}
use Rattle.table_files.proofs.Steps.{mask_whole}
use Rattle.table_files.proofs.reading.MasksRecordList.take.Goals as goal

pub returns-in_err-next_record-clause-taken : goal.returns-in_err-next_record-clause-taken
unfolding step_of
returns-in_err-next_record-clause-taken c =
    let p = err_from_is_err_and c.from_residual.result c.from_residual.ensures.1 in
    rw (p.1, p.2, ← c.len-count.ensures.value, ← c.due_after.ensures, ← c.in_err-next_record.ensures)

pub returns-then-count-ge-MAX_SETS-clause-taken : goal.returns-then-count-ge-MAX_SETS-clause-taken
unfolding step_of taken_mask
returns-then-count-ge-MAX_SETS-clause-taken c =
    rw (← c.len-count.ensures.value, ← c.due_after.ensures, ← c.in_ok-next_record.ensures, c.in-One.is, le-leb 128 _ c.if-count-ge-MAX_SETS.true)

pub returns-in_err-check_mask-in-One-clause-taken : goal.returns-in_err-check_mask-in-One-clause-taken
unfolding step_of taken_mask
returns-in_err-check_mask-in-One-clause-taken c =
    let p = err_from_is_err_and c.from_residual-in_err-check_mask-in-One.result c.from_residual-in_err-check_mask-in-One.ensures.1 in
    rw (p.1, p.2, ← c.len-count.ensures.value, ← c.due_after.ensures, ← c.in_ok-next_record.ensures, c.in-One.is, lt-leb 128 _ c.if-count-ge-MAX_SETS.false, ← c.field-mask.ensures, ← c.in_err-check_mask-in-One.ensures)

pub returns-in-End-clause-taken : goal.returns-in-End-clause-taken
unfolding step_of
returns-in-End-clause-taken c = (rw (← c.len-count.ensures.value, ← c.due_after.ensures, ← c.in_ok-next_record.ensures, c.in-End.is), refl)

pub returns-in_ok-check_mask-in-One-clause-taken : goal.returns-in_ok-check_mask-in-One-clause-taken
unfolding step_of taken_mask
returns-in_ok-check_mask-in-One-clause-taken c = (
  rw (c.push.ensures.room (omega (arith, c.len-count.ensures.value, c.if-count-ge-MAX_SETS.false)), ← c.len-count.ensures.value, ← c.due_after.ensures, ← c.in_ok-next_record.ensures, c.in-One.is, lt-leb 128 _ c.if-count-ge-MAX_SETS.false, ← c.field-mask.ensures, ← c.in_ok-check_mask-in-One.ensures),
  mask_whole c.args.self.now.kind c.args.self.now.n c.args.self.now.sets.items c.args.s.now (sym (rw (c.in-One.is, c.due_after.ensures, c.len-count.ensures.value) at c.in_ok-next_record.ensures)),
)
