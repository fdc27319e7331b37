-- The first mask that meets something, or none.
use Rattle.std.proofs.lemmas.Result.{err_from_is_err_and}
use Rattle.std.proofs.Common.{sym, ◌∙◌}
use Rattle.std.proofs.lemmas.List.{at_drop_all}
use Rattle.drive_sets.specs.Refusals.{yields}
use Rattle.survivor_tables.specs.Tables.{each_mask}
use Rattle.complete_tables.proofs.Completes.{each_next}
use Rattle.complete_tables.proofs.check_each.Goals as goal

pub returns-in_err-check_mask : goal.returns-in_err-check_mask
returns-in_err-check_mask c =
    let p = err_from_is_err_and c.from_residual.result c.from_residual.ensures.1 in
    rw (p.1, p.2, ← c.loop-mask.invariant, each_next _ _ _ _ _ c.loop-mask-test.true, ← c.in_err-check_mask.ensures)

pub loop-mask-preserved : goal.loop-mask-preserved
loop-mask-preserved c =
    rw (← c.loop-mask.invariant, each_next _ _ _ _ _ c.loop-mask-test.true, ← c.in_ok-check_mask.ensures)

pub returns : goal.returns
unfolding each_mask
returns c =
    let a = c.args in
    sym (at_drop_all (λ l. each_mask a.kind a.n l (yields a.masks.now)) a.masks.now _ c.loop-mask-test.false)
    ∙ c.loop-mask.invariant
