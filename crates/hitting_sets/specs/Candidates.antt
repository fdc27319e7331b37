-- The drives of a set that m misses with which the search goes on.
use Rattle.std.specs.Prelude.{◌≡◌, true, List, ℕ, ◌+◌, take, drop}
use Rattle.drive_sets.specs.Masks.{has, single, union, drives}
use Rattle.survivor_tables.specs.Hitting.{Minimal, for_each, search}

-- From m at place i the search lists what it lists, one place further, for m with each drive of r in turn; and m with
-- such a drive is a minimal hitting set so far.
pub record Candidates (sets : List ℕ) (i m r : ℕ) : Type 0 where
  pub listed : search (take i sets) (drop i sets) m ≡ for_each (search (take (i + 1) sets) (drop (i + 1) sets)) m (drives r)
  pub minimal : (d : ℕ) → has d r ≡ true → Minimal (take (i + 1) sets) (union m (single d))
