-- The refusal, or the sets of the table.
use Rattle.std.proofs.Common.{refl, sym}
use Rattle.complete_tables.specs.Complete.{with_cores}
use Rattle.complete_tables.proofs.Accepts.{then_refused, due_given}
use Rattle.fault_lists.specs.FaultLists.{table_from_faults, complete_from_faults}
use Rattle.fault_calls.proofs.regdulyn_table_from_faults.Goals as goal

pub returns-in-Err : goal.returns-in-Err
unfolding complete_from_faults
returns-in-Err c =
    let a = c.args in
    rw (then_refused (table_from_faults a.n a.groups.now) (with_cores a.n) (sym (rw c.in-Err.is at c.table_from_faults.ensures))) (record { value = c.refused_size.ensures; out_after = refl })

pub returns-in-Ok : goal.returns-in-Ok
unfolding complete_from_faults
returns-in-Ok c =
    let a = c.args in
    rw ((due_given a.n (table_from_faults a.n a.groups.now) c.in-Ok.t (rw c.in-Ok.is at c.table_from_faults.ensures)).0, ← c.as_slice.ensures.value) c.put_list.ensures
