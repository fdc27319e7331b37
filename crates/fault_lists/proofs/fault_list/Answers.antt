-- The rests of the table of the rests.
use Rattle.fault_lists.proofs.FaultLists.Laws.{list_rests}
use Rattle.fault_lists.proofs.fault_list.Goals as goal

pub returns-in-Err : goal.returns-in-Err
returns-in-Err c = rw (← list_rests, ← (rw c.in-Err.is at c.table_from_faults.ensures))

pub returns-in-Ok : goal.returns-in-Ok
returns-in-Ok c = rw (c.rests.ensures, c.as_slice.ensures.value, ← list_rests, ← (rw c.in-Ok.is at c.table_from_faults.ensures))
