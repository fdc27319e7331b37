-- The fault list that the bytes are.
use Rattle.std.proofs.Common.{refl, sym, arith}
use Rattle.table_replies.specs.Replies.{fitting_table}
use Rattle.fault_calls.proofs.regdulyn_read_faults.Goals as goal

pub returns-in-Err : goal.returns-in-Err
unfolding fitting_table
returns-in-Err c = rw (← c.in-Err.ensures) (record { value = c.refused_table.ensures c.args.s.now; out_after = refl })

pub returns-in-Ok : goal.returns-in-Ok
returns-in-Ok c =
    let w = c.put_table.ensures c.args.s.now _ (record { drives = refl; masks = sym c.as_slice.ensures.value; took = omega arith }) in
    rw (← c.in-Ok.ensures) (record { value = w.0; out_after = w.1 })
