-- 12, what is met before the cores are looked for, or the verdict on the table.
use Rattle.std.proofs.lemmas.Result.{err_from_is_err_and}
use Rattle.std.proofs.Common.{sym, ap, not}
use Rattle.survivor_tables.specs.declared.frames.MaskKind.TheVariants.{SurvivorSet}
use Rattle.survivor_tables.proofs.Tables.Laws.{masks_checked}
use Rattle.verdict_search.proofs.Answers.{count_bounds}
use Rattle.verdicts.specs.Calls.{verdict_given}
use Rattle.verdicts.proofs.calls.verdict_on.Goals as goal

pub returns-then-not-is_block_count : goal.returns-then-not-is_block_count
unfolding verdict_given
returns-then-not-is_block_count c = record { says = rw (← c.is_block_count.ensures, c.if-not-is_block_count.true); whole = rw (← c.is_block_count.ensures, c.if-not-is_block_count.true) }

pub on_normal-requires : goal.on_normal-requires
on_normal-requires c =
    let b = count_bounds _ c.is_block_count.ensures (ap not c.if-not-is_block_count.false) in
    (b.0, b.1, (masks_checked SurvivorSet _ _ (sym c.in_ok-check_masks.ensures)).0.most)

pub returns-in_err-check_masks : goal.returns-in_err-check_masks
unfolding verdict_given
returns-in_err-check_masks c =
    let p = err_from_is_err_and c.from_residual.result c.from_residual.ensures.1 in
    let e = c.is_block_count.ensures in
    let r = c.in_err-check_masks.ensures in
    record { says = rw (p.1, p.2, ← e, c.if-not-is_block_count.false, ← r); whole = rw (p.1, p.2, ← e, c.if-not-is_block_count.false, ← r) }

pub returns : goal.returns
unfolding verdict_given
returns c =
    let e = c.is_block_count.ensures in
    let r = c.in_ok-check_masks.ensures in
    record { says = rw (c.on_normal.ensures.says, ← e, c.if-not-is_block_count.false, ← r); whole = rw (c.on_normal.ensures.whole, ← e, c.if-not-is_block_count.false, ← r) }
