-- The first of the cores.
use Rattle.std.proofs.lemmas.Result.{err_from_is_err_and}
use Rattle.complete_tables.proofs.Accepts.{accept_refused, accept_taken}
use Rattle.tables.proofs.CallAnswers.{a_core, first_core}
use Rattle.survivor_tables.specs.Tables.{chosen_core}
use Rattle.tables.proofs.calls.chosen_core.Goals as goal

pub returns-in_err-t : goal.returns-in_err-t
unfolding chosen_core
returns-in_err-t c =
    let p = err_from_is_err_and c.from_residual.result c.from_residual.ensures.1 in
    rw (p.1, p.2, accept_refused _ _ c.in_err-t.ensures)

pub bounds-as_slice-0 : goal.bounds-as_slice-0
bounds-as_slice-0 c = rw c.as_slice.ensures.value (a_core _ _ c.in_ok-t.t (accept_taken _ _ c.in_ok-t.t c.in_ok-t.ensures))

pub returns : goal.returns
returns c = rw c.as_slice.ensures.value (first_core _ _ c.in_ok-t.t (accept_taken _ _ c.in_ok-t.t c.in_ok-t.ensures))
