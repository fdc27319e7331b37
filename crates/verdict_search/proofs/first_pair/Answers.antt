-- Two positions: for each set the first apart from what it shares; what is found from here on is what the whole gives.
use native.Mathlib.Omega.{arith}
use Rattle.drive_sets.specs.Masks.{common}
use Rattle.verdict_search.specs.Held.{found_in}
use Rattle.verdict_search.proofs.Loops.{pair_found, pair_within, pair_later, pair_end}
use Rattle.verdict_search.proofs.first_pair.Goals as goal

pub overflow_cast-second : goal.overflow_cast-second
unfolding common
overflow_cast-second c = omega (arith, pair_within _ _ _ _ c.loop-i.invariant c.loop-i-test.true c.next_missed.ensures c.in-Some.is, c.requires)

pub returns-in-Some : goal.returns-in-Some
unfolding common
returns-in-Some c = pair_found _ _ _ _ c.loop-i.invariant c.loop-i-test.true c.next_missed.ensures c.in-Some.is

pub loop-i-preserved : goal.loop-i-preserved
unfolding common
loop-i-preserved c = pair_later _ _ _ _ c.loop-i.invariant c.loop-i-test.true c.next_missed.ensures c.in_default.is

pub returns : goal.returns
unfolding found_in
returns c = pair_end _ _ _ _ c.loop-i.invariant c.loop-i-test.false
