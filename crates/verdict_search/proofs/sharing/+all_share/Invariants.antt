-- Few enough drives are lacked, or each set has a drive; else for each set that lacks the chosen drive, one set fewer.
use Rattle.verdict_search.proofs.Branches.{Branching}
use Prim.Native.Nat.{◌-◌}
use Rattle.verdict_search.proofs.sharing.+all_share.Given as goal

abbrev pub decreases-all_share : goal.decreases-all_share
decreases-all_share l = l.k

abbrev pub invariant-loop-set : goal.invariant-loop-set
invariant-loop-set l = Branching (l.k - 1) l.table l.shared l.drive.0 l.set-index
