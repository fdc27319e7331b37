-- The drives of the mask from the lowest, each behind the one before; nothing where they do not fit.
use native.Mathlib.Omega.{arith}
use Rattle.controller.proofs.SentLists.{placing_none, placing_turn, placing_end}
use Rattle.controller.proofs.receivers.put_drives.Goals as goal

pub returns-then-part-size : goal.returns-then-part-size
returns-then-part-size c = let a = c.args in placing_none a.m a.part.now _ c.size-size.ensures c.if-part-size.true

pub loop-i-preserved : goal.loop-i-preserved
loop-i-preserved c = placing_turn c.loop-i.invariant (omega arith) _ _ c.lowest.ensures c.without_lowest-rest.ensures

pub returns : goal.returns
returns c = placing_end c.loop-i.invariant (omega arith)
