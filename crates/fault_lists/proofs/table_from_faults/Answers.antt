-- The refusals of the check, or the table of the rests.
use Rattle.std.proofs.Common.{sym}
use Rattle.std.proofs.lemmas.Result.{err_from_is_err_and}
use Rattle.survivor_tables.proofs.Tables.Laws.{masks_checked}
use Rattle.fault_lists.proofs.FaultLists.Laws.{complete_rests}
use Rattle.fault_lists.proofs.table_from_faults.Goals as goal

pub returns-in_err-check_masks : goal.returns-in_err-check_masks
returns-in_err-check_masks c =
    let p = err_from_is_err_and c.from_residual.result c.from_residual.ensures.1 in
    rw (p.1, p.2, ← complete_rests, ← c.in_err-check_masks.ensures)

pub rests-requires : goal.rests-requires
rests-requires c = (masks_checked _ _ _ (sym c.in_ok-check_masks.ensures)).0.most

pub returns : goal.returns
returns c =
    rw (← complete_rests, ← c.in_ok-check_masks.ensures, ← c.rests.ensures, ← c.as_slice.ensures.value) c.accept.ensures
