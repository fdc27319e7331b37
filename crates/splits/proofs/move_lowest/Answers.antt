-- Two stores, of what the definition puts there.
use Rattle.splits.specs.Splits.{with_move}
use Rattle.splits.proofs.move_lowest.Goals as goal

pub returns : goal.returns
unfolding with_move
returns c = rw (c.single.ensures, c.lowest.ensures, c.without_lowest.ensures)
