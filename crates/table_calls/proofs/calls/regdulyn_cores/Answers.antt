-- The refusal, or the cores that were listed.
use Rattle.std.proofs.Common.{refl}
use Rattle.complete_tables.proofs.Accepts.{accept_refused, accept_taken}
use Rattle.survivor_tables.specs.Tables.{core_list}
use Rattle.table_calls.proofs.calls.regdulyn_cores.Goals as goal

pub returns-in-Err : goal.returns-in-Err
unfolding core_list
returns-in-Err c = rw (accept_refused _ _ c.in-Err.ensures) (record { value = c.refused_size.ensures; out_after = refl })

pub returns-in-Ok : goal.returns-in-Ok
unfolding core_list
returns-in-Ok c =
    let u = accept_taken _ _ c.in-Ok.t c.in-Ok.ensures in rw (u.table, ← u.list, ← c.as_slice.ensures.value) c.put_list.ensures
