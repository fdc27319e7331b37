-- A decision found before, one in this round, none.
use Rattle.agreement.specs.Canonical.{ending_on}
use Rattle.simulated_decisions.specs.Endings.{ending_by, or_later}
use Rattle.simulated_decisions.proofs.noting.first_decision.Goals as goal

pub returns-in-Some-default : goal.returns-in-Some-default
unfolding or_later ending_on ending_by
returns-in-Some-default c = rw c.in-Some-default.is-0

pub returns-in-None-Decided : goal.returns-in-None-Decided
unfolding or_later ending_on ending_by
returns-in-None-Decided c = rw (c.in-None-Decided.is-0, c.in-None-Decided.is-1)

pub returns-in-None-Undecided : goal.returns-in-None-Undecided
unfolding or_later ending_on ending_by
returns-in-None-Undecided c = rw (c.in-None-Undecided.is-0, c.in-None-Undecided.is-1)
