-- The rests of the table.
use Rattle.fault_lists.proofs.FaultLists.Laws.{table_rests}
use Rattle.fault_lists.proofs.faults_from_table.Goals as goal

pub returns-in-Err : goal.returns-in-Err
returns-in-Err c = rw (← table_rests, ← (rw c.in-Err.is at c.accept.ensures))

pub returns-in-Ok : goal.returns-in-Ok
returns-in-Ok c = rw (c.rests.ensures, c.as_slice.ensures.value, ← table_rests, ← (rw c.in-Ok.is at c.accept.ensures))
