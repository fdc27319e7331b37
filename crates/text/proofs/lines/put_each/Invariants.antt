-- The texts of a list, item by item.
use Rattle.std.proofs.Common.{ℕ, List}
use Rattle.text.specs.Text.{PutsEach}
use Rattle.text.proofs.Puts.{Putting}
use Rattle.text.proofs.lines.put_each.Given as goal

abbrev pub invariant-loop-x : goal.invariant-loop-x
invariant-loop-x g l =
    goal.F-IsAlwaysCallable g l.put_one × ((text : ℕ → List ℕ) → PutsEach (goal.F-post g l.fn.put_one) text → Putting text l.initial.buf l.numbers l.buf l.start l.at l.x-index)
