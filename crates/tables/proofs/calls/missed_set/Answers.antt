-- The table's refusals, the group's, then the first set of the normal table that is missed.
use Rattle.std.proofs.lemmas.Result.{err_from_is_err_and}
use Rattle.complete_tables.proofs.Accepts.{accept_refused, accept_taken}
use Rattle.survivor_tables.specs.Tables.{missed_set}
use Rattle.tables.proofs.calls.missed_set.Goals as goal

pub returns-in_err-t : goal.returns-in_err-t
unfolding missed_set
returns-in_err-t c =
    let p = err_from_is_err_and c.from_residual.result c.from_residual.ensures.1 in
    rw (p.1, p.2, accept_refused _ _ c.in_err-t.ensures)

pub returns-then-not-is_set : goal.returns-then-not-is_set
unfolding missed_set
returns-then-not-is_set c = rw ((accept_taken _ _ c.in_ok-t.t c.in_ok-t.ensures).table, ← c.is_set.ensures, c.if-not-is_set.true)

pub returns : goal.returns
unfolding missed_set
returns c =
    let u = accept_taken _ _ c.in_ok-t.t c.in_ok-t.ensures in
    rw (u.table, ← c.is_set.ensures, c.if-not-is_set.false, c.first_missed.ensures, c.as_slice.ensures.value)
