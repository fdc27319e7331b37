-- The drives with a CR, from the lowest.
use Rattle.std.proofs.lemmas.Result.{err_from_is_err_and}
use mathlib.Core.Path.{refl}
use Rattle.drive_crashes.specs.Crashes.{crashes_in}
use Rattle.simulation.proofs.CrashChecks.{first_bounds, check_refused, check_passed, check_end}
use Rattle.simulation.proofs.checking.check_all.Goals as goal

pub loop-d-init : goal.loop-d-init
unfolding crashes_in
loop-d-init c = rw c.into_iter-d-iterator.ensures.into_iter_gives refl

pub check_one-requires : goal.check_one-requires
check_one-requires c = first_bounds c.loop-d.d-iterator.0 c.in-Some.ensures.steps

pub returns-in_err-check_one : goal.returns-in_err-check_one
returns-in_err-check_one c = let a = c.args in let p = err_from_is_err_and c.from_residual.result c.from_residual.ensures.1 in
    rw (p.1, p.2) (check_refused a.n a.core a.crashes.now _ _ c.loop-d.invariant _ _ c.in-Some.ensures.steps _ c.in_err-check_one.ensures)

pub loop-d-preserved : goal.loop-d-preserved
loop-d-preserved c = let a = c.args in check_passed a.n a.core a.crashes.now _ _ c.loop-d.invariant _ _ c.in-Some.ensures.steps c.in_ok-check_one.ensures

pub returns : goal.returns
returns c = let a = c.args in check_end a.n a.core a.crashes.now _ _ c.loop-d.invariant c.in-None.ensures.steps.0
