-- The drives one after the other.
use Rattle.simulated_rounds.proofs.Closes.{Closing}
use Rattle.simulated_rounds.proofs.Setting.close_all.Given as goal

abbrev pub invariant-loop-i : goal.invariant-loop-i
invariant-loop-i l = Closing l.self.n l.self.crashes.now l.self.round.0 l.began l.initial.all l.all l.i
