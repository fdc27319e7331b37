-- The texts of a list, item by item.
use mathlib.Core.Path.{refl}
use Rattle.text.proofs.Puts.{putting_start, putting_turn, putting_end}
use borrow.Author.Rules.{rules}
use Rattle.text.proofs.lines.put_each.Goals as goal

pub loop-x-init : goal.loop-x-init
loop-x-init g c = (search rules, λ text puts. putting_start _ c.place-at.ensures)

pub loop-x-preserved : goal.loop-x-preserved
loop-x-preserved g c = (search rules, λ text puts. putting_turn (c.loop-x.invariant.1 text puts) c.loop-x-test.true refl (search rules) (puts _ _ _ _ _ c.put_one-at.ensures))

pub returns : goal.returns
returns g c = λ text puts. putting_end (c.loop-x.invariant.1 text puts) c.loop-x-test.false
