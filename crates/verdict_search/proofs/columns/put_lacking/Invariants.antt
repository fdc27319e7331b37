-- The place of each set put in turn.
use Rattle.verdict_search.specs.Columns.{LackingTo}
use lib.ListN.{length}
use mathlib.Core.Path.{◌≡◌}
use Prim.Native.Nat.{◌≤◌}
use Rattle.verdict_search.proofs.columns.put_lacking.Given as goal

abbrev pub invariant-loop-place : goal.invariant-loop-place
invariant-loop-place l = (l.place ≤ length l.table) × (length l.columns ≡ length l.initial.columns) × LackingTo l.place l.table l.columns l.frame
