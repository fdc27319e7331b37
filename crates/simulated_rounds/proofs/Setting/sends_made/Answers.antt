-- No CR, one for another round, one for this round.
use lib.Seq.{take_all}
use mathlib.Core.Path.{sym, ◌∙◌}
use borrow.Author.Rules.{rules}
use borrow.Author.Tests.{not-true, not-false}
use Rattle.agreement.specs.Sends.{cut}
use Rattle.simulated_rounds.specs.Rounds.{crash_at}
use Rattle.simulated_rounds.proofs.Places.{crash_place}
use Rattle.simulated_rounds.proofs.Setting.sends_made.Goals as goal

pub returns-then-not-has : goal.returns-then-not-has
unfolding cut crash_at
returns-then-not-has c l g = rw (← c.has.ensures, c.if-not-has.true, take_all 64 l g)

pub overflow_sub-place : goal.overflow_sub-place
overflow_sub-place c = (crash_place c.args.d.0 c.args.self.now.crashes.now.crashed (search rules) c.has.ensures c.if-not-has.false).0

pub bounds-self-place : goal.bounds-self-place
bounds-self-place c = (crash_place c.args.d.0 c.args.self.now.crashes.now.crashed (search rules) c.has.ensures c.if-not-has.false).1

pub returns-then-ne : goal.returns-then-ne
unfolding cut crash_at
returns-then-ne c l g = rw (← c.has.ensures, c.if-not-has.false, not-true _ (sym c.ne.ensures ∙ c.if-ne.true), take_all 64 l g)

pub bounds-self-place-2 : goal.bounds-self-place-2
bounds-self-place-2 c = (crash_place c.args.d.0 c.args.self.now.crashes.now.crashed (search rules) c.has.ensures c.if-not-has.false).1

pub returns : goal.returns
unfolding cut crash_at
returns c l g = rw (← c.has.ensures, c.if-not-has.false, not-false _ (sym c.ne.ensures ∙ c.if-ne.false))
