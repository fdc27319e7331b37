-- The minimal hitting sets in the first places of a lent slice, in an order.
use Rattle.std.specs.Prelude.{◌≡◌, Bool, List, ℕ, suc, min, length}
use Rattle.survivor_tables.specs.Hitting.{minimals}
use Rattle.survivor_tables.specs.Order.{sort}
use Rattle.drive_sets.specs.Lent.{fitting, buffer_after}
use Rattle.drive_sets.specs.Limits.{max_cores}
pub mod Laws

-- how many sets a lent slice has room for, at most 1024
abbrev pub room_in : List ℕ → ℕ
room_in out = min max_cores (length out)

-- r is their number, and one more than the room says that there are more. Where they have room they stand in the first
-- places, in order, and behind them nothing has changed; where they have not, nothing has.
pub record Found (before : ℕ → ℕ → Bool) (sets out out' : List ℕ) (r : ℕ) : Type 0 where
  pub total : r ≡ min (suc (room_in out)) (length (minimals sets))
  pub list : out' ≡ buffer_after (fitting 0 (room_in out) (sort before (minimals sets))) 0 out
