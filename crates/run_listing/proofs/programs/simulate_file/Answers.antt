-- The table's refusal, or what stands behind the table.
use Rattle.std.proofs.lemmas.Result.{err_from_is_err_and}
use Rattle.table_files.specs.Files.Laws.{table_read_law}
use Rattle.table_files.proofs.TableReads.{table_refused, table_behind}
use Rattle.simulation.specs.Endings.{simulated_outcome}
use Rattle.run_listing.specs.RunListing.{simulated_file}
use Rattle.run_listing.proofs.programs.simulate_file.Goals as goal

pub returns-in_err-t-clause-value : goal.returns-in_err-t-clause-value
unfolding simulated_file
returns-in_err-t-clause-value c =
    let e = err_from_is_err_and c.from_residual.result c.from_residual.ensures.1 in
    let r = c.read_table.ensures in
    rw (e.1, e.2, table_refused _ _ _ _ r.value r.rest_after c.in_err-t.was)

pub returns-in_err-simulated-clause-value : goal.returns-in_err-simulated-clause-value
unfolding simulated_outcome simulated_file
returns-in_err-simulated-clause-value c =
    let e = err_from_is_err_and c.from_residual-in_err-simulated.result c.from_residual-in_err-simulated.ensures.1 in
    let r = c.read_table.ensures in
    rw (table_behind _ _ _ _ r.value r.rest_after c.in_ok-t.was, e.1, e.2) (rw c.as_slice.ensures.value at c.in_err-simulated.ensures)

pub returns-clause-value : goal.returns-clause-value
unfolding simulated_outcome simulated_file
returns-clause-value c =
    let r = c.read_table.ensures in
    rw (table_behind _ _ _ _ r.value r.rest_after c.in_ok-t.was) (rw c.as_slice.ensures.value at c.in_ok-simulated.ensures)

pub returns-clause-high : goal.returns-clause-high
returns-clause-high c =
    let r = c.read_table.ensures in
    (table_read_law _ _ (table_behind _ _ _ _ r.value r.rest_after c.in_ok-t.was)).1.high
