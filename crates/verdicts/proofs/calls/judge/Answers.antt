-- 12, the table's refusals, or the verdict on the normal table.
use Rattle.std.proofs.lemmas.Result.{err_from_is_err_and}
use Rattle.complete_tables.proofs.Accepts.{accept_refused, accept_taken}
use Rattle.verdicts.specs.Calls.{verdict}
use Rattle.verdicts.proofs.calls.judge.Goals as goal

pub returns-then-not-is_block_count : goal.returns-then-not-is_block_count
unfolding verdict
returns-then-not-is_block_count c = record { says = rw (← c.is_block_count.ensures, c.if-not-is_block_count.true); whole = rw (← c.is_block_count.ensures, c.if-not-is_block_count.true) }

pub returns-in_err-t : goal.returns-in_err-t
unfolding verdict
returns-in_err-t c = let p = err_from_is_err_and c.from_residual.result c.from_residual.ensures.1 in let e = c.is_block_count.ensures in
    let r = accept_refused _ _ c.in_err-t.ensures in
    record { says = rw (p.1, p.2, ← e, c.if-not-is_block_count.false, r); whole = rw (p.1, p.2, ← e, c.if-not-is_block_count.false, r) }

pub returns : goal.returns
unfolding verdict
returns c =
    let e = c.is_block_count.ensures in
    let r = (accept_taken _ _ c.in_ok-t.t c.in_ok-t.ensures).table in
    let same = c.as_slice.ensures.value in
    record { says = rw (c.on_normal.ensures.says, same, ← e, c.if-not-is_block_count.false, r); whole = rw (c.on_normal.ensures.whole, same, ← e, c.if-not-is_block_count.false, r) }
