-- Each block tested, one after the other.
use mathlib.Core.Path.{subst}
use Prim.Native.Nat.{ℕ, ◌≤◌, ◌<◌}
use borrow.Author.Tests.{le-leb, lt-leb}
use Rattle.drive_sets.specs.Loops.Scan.{scan_start, failing_turn, failing_found, failing_end}
use Rattle.splits.proofs.first_large.Goals as goal

pub loop-i-init : goal.loop-i-init
loop-i-init c = scan_start _ _

pub returns-then-size-gt1 : goal.returns-then-size-gt1
returns-then-size-gt1 c = failing_found _ c.loop-i.invariant c.loop-i-test.true (lt-leb _ 1 (subst (λ (x : ℕ). 1 < x) c.size.ensures c.if-size-gt1.true))

pub loop-i-preserved : goal.loop-i-preserved
loop-i-preserved c = failing_turn _ c.loop-i.invariant c.loop-i-test.true (le-leb _ 1 (subst (λ (x : ℕ). x ≤ 1) c.size.ensures c.if-size-gt1.false))

pub returns : goal.returns
returns c = failing_end _ c.loop-i.invariant c.loop-i-test.false
