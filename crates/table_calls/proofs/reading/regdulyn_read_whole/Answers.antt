-- The table that the bytes are.
use Rattle.std.specs.Prelude.{length}
use Rattle.std.proofs.Common.{refl, sym, ap, ◌∙◌, arith}
use Rattle.complete_tables.specs.Complete.{Complete, with_cores}
use Rattle.table_files.specs.Files.{read_whole}
use Rattle.table_files.specs.Files.Laws.{whole_table}
use Rattle.table_files.specs.WithCores.{read_whole_complete}
use Rattle.table_files.proofs.TableReads.{read_refused, read_accepted}
use Rattle.table_replies.specs.Replies.{fitting_table}
use Rattle.table_calls.proofs.reading.regdulyn_read_whole.Goals as goal

pub returns-in-Err : goal.returns-in-Err
unfolding read_whole_complete fitting_table
returns-in-Err c =
    let s = c.args.s.now in
    rw (read_refused c.read_whole.result (read_whole s) c.read_whole.ensures c.in-Err.is) (record { value = c.refused_table.ensures s; out_after = refl })

pub returns-in-Ok : goal.returns-in-Ok
unfolding read_whole_complete with_cores
returns-in-Ok c =
    let s = c.args.s.now in
    let u = read_accepted c.read_whole.result (read_whole s) c.read_whole.ensures c.in-Ok.is in
    let w = c.put_table.ensures s u.0 (record {
      drives = ap (λ (t : Complete). t.n) u.2;
      masks = ap (λ (t : Complete). t.sets) u.2 ∙ sym c.as_slice.ensures.value;
      took = omega (arith, ap length (whole_table s u.0 u.1).1);
    }) in
    rw u.1 (record { value = w.0; out_after = w.1 })
