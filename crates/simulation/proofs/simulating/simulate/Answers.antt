-- The refusals in order, or the result.
use Rattle.std.proofs.lemmas.Result.{err_from_is_err_and}
use mathlib.Core.Path.{sym, ap, ◌∙◌}
use Prim.Native.Nat.{◌^◌, ◌<◌}
use borrow.Author.Rules.{rules}
use Rattle.drive_sets.specs.Refusals.{yields}
use Rattle.drive_crashes.specs.Crashes.{crashes_in}
use Rattle.drive_crashes.specs.Crashes.Laws.{crashed_in}
use Rattle.survivor_tables.specs.Hitting.{first_missed}
use Rattle.simulation.specs.Endings.{simulated_outcome}
use Rattle.simulation.proofs.Results.{told, table_refused, crash_refused, crash_passed, all_touched, some_untouched}
use Rattle.simulation.proofs.Patterns.{patterns_below}
use Rattle.simulation.proofs.simulating.simulate.Goals as goal

pub returns-in_err-core : goal.returns-in_err-core
unfolding simulated_outcome
returns-in_err-core c = let a = c.args in let p = err_from_is_err_and c.from_residual.result c.from_residual.ensures.1 in
    rw (p.1, p.2) (table_refused a.n a.sets.now _ _ _ (sym c.in_err-core.ensures))

pub returns-in_err-check_all : goal.returns-in_err-check_all
unfolding simulated_outcome
returns-in_err-check_all c = let a = c.args in let word : a.crashes.crashed < 2 ^ 64 = search rules in
    let p = err_from_is_err_and c.from_residual-in_err-check_all.result c.from_residual-in_err-check_all.ensures.1 in
    rw (p.1, p.2) (crash_refused a.n a.sets.now a.numbers a.crashes _ word (sym c.in_ok-core.ensures) _ (crashes_in a.crashes) _ (sym c.in_err-check_all.ensures))

pub returns-then-is_none : goal.returns-then-is_none
unfolding simulated_outcome
returns-then-is_none c = let a = c.args in let word : a.crashes.crashed < 2 ^ 64 = search rules in
    all_touched a.n a.sets.now _ (crashes_in a.crashes) (c.first_missed.ensures ∙ sym (ap (first_missed a.sets.now) (crashed_in a.crashes word))) c.is_none.ensures c.if-is_none.true
    ∙ crash_passed a.n a.sets.now a.numbers a.crashes _ word (sym c.in_ok-core.ensures) _ (crashes_in a.crashes) (sym c.in_ok-check_all.ensures)

pub returns : goal.returns
unfolding simulated_outcome
returns c = let a = c.args in let word : a.crashes.crashed < 2 ^ 64 = search rules in
    ap yields (c.result_on.ensures _ (told a.n a.sets.now a.numbers a.crashes _ word (sym c.in_ok-core.ensures) (λ i. search (rules, patterns_below)) (sym c.in_ok-check_all.ensures)))
    ∙ (some_untouched a.n a.sets.now _ (crashes_in a.crashes) (c.first_missed.ensures ∙ sym (ap (first_missed a.sets.now) (crashed_in a.crashes word))) c.is_none.ensures c.if-is_none.false
    ∙ crash_passed a.n a.sets.now a.numbers a.crashes _ word (sym c.in_ok-core.ensures) _ (crashes_in a.crashes) (sym c.in_ok-check_all.ensures))
