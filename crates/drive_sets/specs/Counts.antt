-- The counts in their bounds: the drives of a frame, and the rounds of an exchange.
use Rattle.std.specs.Prelude.{Bool, ◌&&◌, ℕ, leb}
use Rattle.drive_sets.specs.Masks.{size}
pub mod Laws

-- d is a drive of a frame of n drives
unfoldable pub is_drive : ℕ → ℕ → Bool
is_drive n d = leb 1 d && leb d n

-- a round of an exchange whose core this is: 1 to the core's size
unfoldable pub is_round : ℕ → ℕ → Bool
is_round core round = leb 1 round && leb round (size core)
