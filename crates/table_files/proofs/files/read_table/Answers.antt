-- The listing, made complete; the caller's slice is set where that is accepted.
use Rattle.std.proofs.Common.{refl}
use Rattle.std.proofs.lemmas.Result.{err_from_is_err_and}
use Rattle.records.proofs.Parts.{rest_is}
use Rattle.table_files.specs.Files.{read_table}
use Rattle.table_files.specs.WithCores.{read_complete}
use Rattle.table_files.proofs.TableReads.{table_given}
use Rattle.table_files.proofs.files.read_table.Goals as goal

pub returns-in_err-listed : goal.returns-in_err-listed
unfolding read_complete read_table
returns-in_err-listed c =
    let p = err_from_is_err_and c.from_residual.result c.from_residual.ensures.1 in
    rw (p.1, p.2, ← c.in_err-listed.ensures.value) (record { value = refl; rest_after = refl })

pub returns-in_err-t : goal.returns-in_err-t
returns-in_err-t c =
    let l = c.in_ok-listed.listed in
    let p = err_from_is_err_and c.from_residual-in_err-t.result c.from_residual-in_err-t.ensures.1 in
    rw (p.1, p.2, table_given c.args.s.now l.table.n l.table.sets.items l.used c.in_ok-listed.ensures.value, ← c.as_slice.ensures.value, ← c.in_err-t.ensures) (record { value = refl; rest_after = refl })

pub returns : goal.returns
returns c =
    let l = c.in_ok-listed.listed in
    rw (table_given c.args.s.now l.table.n l.table.sets.items l.used c.in_ok-listed.ensures.value, ← c.as_slice.ensures.value, ← c.in_ok-t.ensures)
    (record { value = refl; rest_after = rest_is c.args.s.now l.used })
