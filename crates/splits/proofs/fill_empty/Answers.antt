-- So many moves are still to come.
use mathlib.Core.Path.{◌∙◌}
use Prim.Native.Nat.{◌-◌}
use native.Mathlib.Omega.{arith}
use lib.ListN.{length}
use Rattle.splits.specs.Splits.{fill_empty}
use Rattle.splits.proofs.Moving.{moves_next, moves_done}
use borrow.Author.Rules.{rules}
use Rattle.splits.proofs.fill_empty.Goals as goal

pub loop-init : goal.loop-init
unfolding fill_empty
loop-init c = search rules

pub loop-preserved : goal.loop-preserved
loop-preserved c = moves_next (length c.args.blocks.now) c.loop.counter c.loop.blocks c.loop-test.true c.move_one.ensures ∙ c.loop.invariant

pub returns : goal.returns
returns c = moves_done (length c.args.blocks.now - c.loop.counter) c.loop.blocks (omega arith) ∙ c.loop.invariant
