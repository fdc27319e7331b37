-- The table that the bytes begin with, and those behind it.
use Rattle.std.proofs.Common.{refl, sym}
use Rattle.table_files.proofs.TableReads.{table_refused, table_behind}
use Rattle.table_replies.proofs.ReadTables.{rest_short}
use Rattle.table_replies.specs.Replies.{fitting_table}
use Rattle.table_calls.proofs.reading.regdulyn_read_table.Goals as goal

pub overflow_sub-s : goal.overflow_sub-s
overflow_sub-s c = rest_short c.args.s.now _ c.read_table.ensures.rest_after

pub returns-in-Err : goal.returns-in-Err
unfolding fitting_table
returns-in-Err c =
    let r = c.read_table in
    let s = c.args.s.now in
    rw (table_refused r.result s s _ r.ensures.value r.ensures.rest_after c.in-Err.is) (record { value = c.refused_table.ensures s; out_after = refl })

pub returns-in-Ok : goal.returns-in-Ok
returns-in-Ok c =
    let r = c.read_table in
    let s = c.args.s.now in
    let w = c.put_table.ensures s _ (record { drives = refl; masks = sym c.as_slice.ensures.value; took = refl }) in
    rw (table_behind r.result s s _ r.ensures.value r.ensures.rest_after c.in-Ok.is) (record { value = w.0; out_after = w.1 })
