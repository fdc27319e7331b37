-- The tests in order.
use mathlib.Core.Path.{◌∙◌}
use Rattle.drive_sets.specs.Bools.Laws.{clash}
use Rattle.runs.specs.World.{active}
use Rattle.simulated_rounds.proofs.Setting.is_sender.Goals as goal
use Rattle.simulated_rounds.proofs.Setting.is_sender.Goals.{then-has, else-has}

pub returns-then-not-x : goal.returns-then-not-x
unfolding active
returns-then-not-x c = elim c.if-has.branch [
  | then-has w ↦ rw (← c.has.ensures, w.if-has.true, ← w.value-is, c.if-not-x.true, c.gone_before.ensures)
  | else-has w ↦ absurd (clash c.if-not-x.true (w.value-is ∙ w.if-has.false))
]

pub returns-else-not-x : goal.returns-else-not-x
unfolding active
returns-else-not-x c = elim c.if-has.branch [
  | then-has w ↦ rw (← c.has.ensures, w.if-has.true, ← w.value-is, c.if-not-x.false)
  | else-has w ↦ rw (w.value-is, ← c.has.ensures, w.if-has.false)
]
