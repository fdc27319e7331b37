-- 14, or the drives of the first set and those of the second behind them.
use Rattle.controller.proofs.SentLists.{both_full, both_put}
use Rattle.controller.proofs.receivers.put_both.Goals as goal

pub returns-then-out-size : goal.returns-then-out-size
returns-then-out-size c = let a = c.args in both_full a.first a.second _ _ a.out.now c.size-start.ensures c.size.ensures c.if-out-size.true

pub returns : goal.returns
returns c = let a = c.args in both_put a.first a.second _ _ a.out.now c.size-start.ensures c.size.ensures c.if-out-size.false _ _ c.put_drives.ensures c.put_drives-2.ensures
