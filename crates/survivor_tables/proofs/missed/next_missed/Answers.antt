-- Each set tested, one after the other.
use mathlib.Core.Path.{sym, ◌∙◌}
use Rattle.drive_sets.specs.Loops.Scan.{scan_from, failing_turn, failing_found, failing_end}
use Rattle.survivor_tables.proofs.missed.next_missed.Goals as goal

pub loop-i-init : goal.loop-i-init
loop-i-init c = scan_from _ _ _

pub returns-then-not-meets : goal.returns-then-not-meets
returns-then-not-meets c = failing_found _ c.loop-i.invariant c.loop-i-test.true (sym c.meets.ensures ∙ c.if-not-meets.true)

pub loop-i-preserved : goal.loop-i-preserved
loop-i-preserved c = failing_turn _ c.loop-i.invariant c.loop-i-test.true (sym c.meets.ensures ∙ c.if-not-meets.false)

pub returns : goal.returns
returns c = failing_end _ c.loop-i.invariant c.loop-i-test.false
