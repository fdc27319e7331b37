-- The place of each set put in turn.
use borrow.Author.Rules.{rules}
use Rattle.verdict_search.proofs.Building.{lacking_turn}
use Rattle.verdict_search.proofs.columns.put_lacking.Goals as goal

pub loop-place-preserved : goal.loop-place-preserved
loop-place-preserved c = let a = c.args in (search rules, search rules, lacking_turn a.table.now a.frame c.loop-place.place c.loop-place.invariant.2 c.minus.ensures c.put_place.ensures)
