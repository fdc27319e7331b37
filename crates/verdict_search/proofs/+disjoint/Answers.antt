-- The search for k positions, by recursion on k: nothing where any k share a drive, else what is found from here on is
-- what the whole gives.
use native.Mathlib.Omega.{arith}
use mathlib.Core.Path.{sym, ap}
use Rattle.drive_sets.specs.Masks.{common}
use Rattle.verdict_search.specs.Held.{found_in}
use Rattle.verdict_search.proofs.Branches.{lacking_part, share_none}
use Rattle.verdict_search.proofs.Loops.{found_more, found_later, found_end}
use Prim.Native.Nat.{◌-◌}
use Rattle.verdict_search.proofs.+disjoint.Goals as goal

pub returns-then-all_share : goal.returns-then-all_share
unfolding found_in
returns-then-all_share t c = let a = c.args in ap found_in (sym (share_none a.table.now a.k a.from a.shared c.ranges.shared.fits (c.all_share.ensures c.if-all_share.true)))

pub disjoint-requires : goal.disjoint-requires
unfolding common
disjoint-requires t c = (omega arith, (omega arith, c.requires.1, lacking_part _ _ c.args.lacking c.ranges.shared.fits c.requires.2))

pub returns-in-Some-disjoint : goal.returns-in-Some-disjoint
unfolding common
returns-in-Some-disjoint t c = let a = c.args in found_more a.k (a.k - 1) a.table.now a.from a.shared c.loop-i.i (omega arith) c.loop-i.invariant c.disjoint.result c.loop-i-test.true c.disjoint.ensures c.in-Some-disjoint.is

pub loop-i-preserved : goal.loop-i-preserved
unfolding common
loop-i-preserved t c = let a = c.args in found_later a.k (a.k - 1) a.table.now a.from a.shared c.loop-i.i (omega arith) c.loop-i.invariant c.disjoint.result c.loop-i-test.true c.disjoint.ensures c.in_default-disjoint.is

pub returns : goal.returns
unfolding found_in
returns t c = let a = c.args in found_end a.k (a.k - 1) a.table.now a.from a.shared c.loop-i.i (omega arith) c.loop-i.invariant c.loop-i-test.false
