-- The two marks, word after word.
use mathlib.Core.Path.{ap}
use Prim.Native.Nat.{ℕ}
use lib.ListN.{get_or}
use borrow.Author.Rules.{rules}
use Rattle.drive_sets.specs.Masks.{union, common}
use Rattle.hitting_sets.proofs.Tracking.{made_turn}
use Rattle.hitting_sets.proofs.marks.take_drive.Goals as goal

pub loop-i-preserved : goal.loop-i-preserved
unfolding union common
loop-i-preserved c =
    let l = c.loop-i.invariant in
    let a = c.args in
    (made_turn _ l.0 (search rules) _ c.minus.ensures, made_turn _ l.1 (search rules) _ (ap (λ (x : ℕ). union x (common (get_or a.missed.now c.loop-i.i 0) (get_or a.column.now c.loop-i.i 0))) c.minus-in-loop-i.ensures))
