-- The drives one after the other.
use mathlib.Core.Path.{ap, ◌∙◌}
use native.Mathlib.Omega.{arith}
use lib.ListN.{set}
use Rattle.simulated_rounds.proofs.Closes.{close_made, close_kept, close_end}
use Rattle.simulated_rounds.proofs.Setting.close_all.Goals as goal
use Rattle.simulated_rounds.proofs.Setting.close_all.Goals.{then-is_closer, else-is_closer}

pub loop-i-preserved : goal.loop-i-preserved
loop-i-preserved c = let a = c.args in let l = c.loop-i in elim c.if-is_closer.branch [
  | then-is_closer w ↦ close_made a.self.now.n a.self.now.crashes.now a.self.now.round.0 a.began.now a.all.now l.all c.if-is_closer.all l.i l.invariant (omega arith) c.is_closer.ensures a.self.now.few w.if-is_closer.true (w.all-is ∙ ap (set l.all l.i) w.close.ensures.state)
  | else-is_closer w ↦ close_kept a.self.now.n a.self.now.crashes.now a.self.now.round.0 a.began.now a.all.now l.all c.if-is_closer.all l.i l.invariant (omega arith) c.is_closer.ensures w.if-is_closer.false w.all-is
]

pub returns : goal.returns
returns c = let a = c.args in let l = c.loop-i in close_end a.self.now.n a.self.now.crashes.now a.self.now.round.0 a.began.now a.all.now l.all l.i l.invariant (omega arith)
