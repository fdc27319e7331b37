-- What a search that is done leaves in its list.
use Rattle.std.specs.Prelude.{◌≡◌, Bool, List, ℕ, suc, ◌≤◌, min, length, take}
use Rattle.survivor_tables.specs.Hitting.{minimals}
use Rattle.survivor_tables.specs.Order.{sort}
use Rattle.drive_sets.specs.Limits.{max_cores}

-- A search that is done, in a list with so much room: r is their number, and one more than the room says that there are
-- more; those that have room stand in the first places, at most 1024 in order. All else in the list is free.
pub record Attempted (before : ℕ → ℕ → Bool) (sets : List ℕ) (room : ℕ) (list : List ℕ) (r : ℕ) : Type 0 where
  pub total : r ≡ min (suc room) (length (minimals sets))
  pub listed : r ≤ room → r ≤ max_cores → take r list ≡ sort before (minimals sets)
