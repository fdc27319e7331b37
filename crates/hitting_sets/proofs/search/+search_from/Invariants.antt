-- The search: the sets still to come become fewer with each call; each return, and each turn of the loop over the
-- drives with which it goes on, is a law of Trials.
use mathlib.Core.Path.{◌≡◌}
use Prim.Native.Nat.{◌-◌}
use lib.ListN.{length}
use Rattle.drive_sets.specs.Masks.{size}
use Rattle.hitting_sets.proofs.Trials.{Trying}
use Rattle.hitting_sets.proofs.search.+search_from.Given as goal

abbrev pub decreases-search_from : goal.decreases-search_from
decreases-search_from l = length l.sets.now - l.next

abbrev pub invariant-loop-rest : goal.invariant-loop-rest
invariant-loop-rest l =
    Trying l.mode.limited l.initial.sum.left l.sets l.m l.next l.initial.out l.out l.initial.sum.found l.sum.found l.sum.left l.rest × (length l.ends ≡ length l.initial.ends) × (length l.left ≡ 16) × (length l.alone ≡ 16)

abbrev pub decreases-loop-rest : goal.decreases-loop-rest
decreases-loop-rest l =
    size l.rest
