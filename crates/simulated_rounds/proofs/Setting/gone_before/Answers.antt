-- The test whether the drive has a CR, then its round.
use Rattle.runs.specs.Scenario.{gone_before}
use Rattle.drive_crashes.proofs.Orders.{by_lt}
use Rattle.simulated_rounds.specs.Rounds.{crash_at}
use Rattle.simulated_rounds.proofs.Places.{crash_place}
use Rattle.simulated_rounds.proofs.Setting.gone_before.Goals as goal
use borrow.Author.Rules.{rules}

pub overflow_sub-d : goal.overflow_sub-d
overflow_sub-d c = (crash_place c.args.d.0 c.args.self.now.crashes.now.crashed (search rules) c.has.ensures c.if-has.true).0

pub bounds-self-d : goal.bounds-self-d
bounds-self-d c = (crash_place c.args.d.0 c.args.self.now.crashes.now.crashed (search rules) c.has.ensures c.if-has.true).1

pub returns-then-has : goal.returns-then-has
unfolding gone_before crash_at
returns-then-has c = rw (← c.has.ensures, c.if-has.true) (by_lt _ _ (cc))

pub returns-else-has : goal.returns-else-has
unfolding gone_before crash_at
returns-else-has c = rw (← c.has.ensures, c.if-has.false)
