-- The refusals of the conversion, or the bytes of its table.
use Rattle.std.proofs.Common.{refl, sym}
use Rattle.std.proofs.lemmas.Result.{err_from_is_err_and}
use Rattle.survivor_tables.specs.declared.frames.MaskKind.TheVariants.{SurvivorSet}
use Rattle.complete_tables.specs.Complete.{with_cores}
use Rattle.complete_tables.proofs.Accepts.{then_refused, due_given}
use Rattle.table_writing.proofs.Writes.{list_written}
use Rattle.fault_lists.specs.FaultLists.{table_from_faults, complete_from_faults}
use Rattle.convert_files.specs.ConvertFiles.{write_table_from}
use Rattle.convert_files.proofs.write_table_from.Goals as goal

pub returns-in_err-t : goal.returns-in_err-t
unfolding write_table_from complete_from_faults
returns-in_err-t c =
    let p = err_from_is_err_and c.from_residual.result c.from_residual.ensures.1 in
    let a = c.args in
    rw (p.1, p.2, then_refused (table_from_faults a.n a.groups.now) (with_cores a.n) (sym c.in_err-t.ensures)) (record { answer = refl; buffer = refl })

pub returns : goal.returns
unfolding write_table_from complete_from_faults
returns c =
    let a = c.args in
    let given = due_given a.n (table_from_faults a.n a.groups.now) c.in_ok-t.t c.in_ok-t.ensures in
    let few = rw c.as_slice.ensures.value at c.as_slice.ensures.fits in
    rw given.0 (rw (c.as_slice.ensures.value, list_written SurvivorSet a.n _ few) at c.write_list.ensures)
