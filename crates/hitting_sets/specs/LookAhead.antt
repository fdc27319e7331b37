-- What m rules out: the drives that no minimal hitting set that holds m takes (forbidden), and the look-ahead, a test
-- that none holds m.
use Rattle.std.specs.Prelude.{Bool, not, List, [], ◌∷◌, ℕ, eqb}
use Rattle.drive_sets.specs.Lists.{filter, any}
use Rattle.drive_sets.specs.Masks.{single, full, union, common, minus, subset, drives}
use Rattle.survivor_tables.specs.Hitting.{critical}
pub mod Forbidden
pub mod CannotExtend

-- the drives that are in every one of the sets
unfoldable pub in_all : List ℕ → ℕ
in_all [] = full 64
in_all (s ∷ sets) = common s (in_all sets)

-- the sets that are private to drive d of m: they meet m in d alone
unfoldable pub privates : List ℕ → ℕ → ℕ → List ℕ
privates sets m d = filter (λ s. eqb (common s m) (single d)) sets

-- the drives outside m that are in every private set of one of the drives ds: adding one leaves that drive none
unfoldable pub forbidden : List ℕ → ℕ → List ℕ → ℕ
forbidden sets m [] = 0
forbidden sets m (d ∷ ds) = union (minus (in_all (privates sets m d)) m) (forbidden sets m ds)

-- some set that m misses has all its drives outside `bar` in p: to hit it takes a drive of p
unfoldable pub covered : List ℕ → ℕ → ℕ → ℕ → Bool
covered sets m bar p = any (λ s. subset s (minus (union bar p) m)) sets

-- some drive of m has no private set that can stay private
unfoldable pub cannot_extend : List ℕ → ℕ → Bool
cannot_extend sets m =
    let bar = forbidden sets m (drives m) in
    not (eqb (critical (filter (λ s. not (covered sets m bar s)) sets) m) m)
