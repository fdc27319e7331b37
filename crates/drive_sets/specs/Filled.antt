-- A list put into an array behind what is there, as long as there is room.
use Rattle.std.specs.Prelude.{◌≡◌, List, ◌++◌, ℕ, suc, ◌+◌, ◌≤◌, min, length, take}
pub mod Laws

-- The first `count` places of `out` are kept and followed by l, as long as there is room; r is their number, and one
-- more than the room says that there are more.
pub record Filled (out out' : List ℕ) (count r : ℕ) (l : List ℕ) : Type 0 where
  pub total : r ≡ min (suc (length out)) (count + length l)
  pub kept : r ≤ length out → take r out' ≡ take count out ++ l
