-- Stopped, undecided, or the decision with its round.
use Rattle.simulated_decisions.specs.Endings.{ending_by, ending_for}
use Rattle.simulation_replies.proofs.ending_of.Goals as goal

pub returns-then-crashes : goal.returns-then-crashes
unfolding ending_for ending_by
returns-then-crashes c = rw c.if-crashes.true

pub returns-in-None : goal.returns-in-None
unfolding ending_for ending_by
returns-in-None c = rw (c.if-crashes.false, c.in-None.is) c.no_ending.ensures

pub returns-in-Some : goal.returns-in-Some
unfolding ending_for ending_by
returns-in-Some c = rw (c.if-crashes.false, c.in-Some.is)
