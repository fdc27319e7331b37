-- What a search with fuel promises of the list that it looks for: all of it where fuel is left, and never more than it
-- has.
use Rattle.std.specs.Prelude.{◌≡◌, Bool, false, List, ℕ, suc, ◌+◌, ◌≤◌, ◌<◌, length}
use Rattle.drive_sets.specs.Filled.{Filled}

-- `found` counts those found behind the first `count` places of `out`, with these: no more than l has, and at most one
-- more than the room. Where fuel is left they are the whole of l. Fuel that is not limited is not spent. The places
-- behind them are free.
pub record Searched (limited : Bool) (fuel : ℕ) (out out' : List ℕ) (count found left : ℕ) (l : List ℕ) : Type 0 where
  pub bound : found ≤ suc (length out)
  pub some : found ≤ count + length l
  pub ended : 0 < left → Filled out out' count found l
  pub unspent : limited ≡ false → left ≡ fuel
