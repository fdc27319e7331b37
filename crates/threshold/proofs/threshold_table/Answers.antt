-- The refusals of the sets; then the groups of t + 1 drives beside them, in order.
use Rattle.std.specs.Prelude.{◌≤◌}
use Rattle.std.proofs.Common.{sym, arith}
use Rattle.std.proofs.lemmas.Result.{err_from_is_err_and}
use Rattle.drive_sets.specs.Limits.{max_cores}
use Rattle.complete_tables.specs.Complete.{Complete}
use Rattle.complete_tables.proofs.Accepts.{then_refused}
use Rattle.threshold.specs.Threshold.{threshold_table, threshold_cores, threshold_complete, threshold_list}
use Rattle.threshold.specs.Threshold.Laws.{list_given}
use Rattle.threshold.proofs.Fills.{sorted_groups}
use Rattle.threshold.proofs.threshold_table.Goals as goal

pub returns-in_err-sets : goal.returns-in_err-sets
unfolding threshold_list
returns-in_err-sets c =
    let p = err_from_is_err_and c.from_residual.result c.from_residual.ensures.1 in
    rw (p.1, p.2, then_refused (threshold_table c.args.n c.args.t) (λ (t : Complete). t.sets) (sym c.in_err-sets.ensures))

pub overflow_add-t : goal.overflow_add-t
overflow_add-t c = let w = list_given _ _ _ (sym c.in_ok-sets.ensures) in omega (arith, w.0.below, w.0.high)

pub fill_groups-found-requires : goal.fill_groups-found-requires
fill_groups-found-requires c =
    let w = list_given _ _ _ (sym c.in_ok-sets.ensures) in (omega (arith, w.0.below), w.0.high, w.0.cores)

pub returns : goal.returns
unfolding threshold_complete threshold_cores
returns c =
    let w = list_given _ _ _ (sym c.in_ok-sets.ensures) in
    let filled = c.fill_groups-found.ensures in
    let few : c.fill_groups-found.result ≤ max_cores = omega (arith, filled.0, w.0.cores) in
    rw (w.0.table, w.1, c.first.ensures) (rw (sorted_groups _ _ _ _ _ few (omega (arith, few)) filled.1 c.sort.ensures))
