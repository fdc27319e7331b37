-- The refusals of the groups, or their fault list.
use Rattle.std.proofs.lemmas.Result.{err_from_is_err_and}
use Rattle.fault_files.proofs.FaultReads.{list_finished}
use Rattle.fault_files.proofs.read_faults.Goals as goal

pub returns-in_err-sets : goal.returns-in_err-sets
returns-in_err-sets c =
    let p = err_from_is_err_and c.from_residual-in_err-sets.result c.from_residual-in_err-sets.ensures.1 in
    rw (p.1, p.2, list_finished _ _ _ _ c.in_ok-listed.ensures.value c.if-listed-s.false, ← c.as_slice.ensures.value, ← c.in_err-sets.ensures)

pub returns : goal.returns
returns c = rw (list_finished _ _ _ _ c.in_ok-listed.ensures.value c.if-listed-s.false, ← c.as_slice.ensures.value, ← c.in_ok-sets.ensures)
