-- Byte fields: numbers of any width, lowest byte first.
use Rattle.std.specs.Prelude.{List, [], ◌∷◌, ℕ, zero, suc, ◌+◌, ◌*◌, ◌/◌, ◌%◌, ◌<◌, take, drop, get_or}
pub mod Laws

-- each of the numbers is a byte
abbrev pub Bytes : List ℕ → Type 0
Bytes s = (i : ℕ) → get_or s i 0 < 256

-- the number of some bytes
unfoldable pub from_bytes : List ℕ → ℕ
from_bytes [] = 0
from_bytes (b ∷ bs) = b + 256 * from_bytes bs

-- the field of so many bytes from a place on
abbrev pub field_at : ℕ → ℕ → List ℕ → ℕ
field_at place width s = from_bytes (take width (drop place s))

-- the lowest bytes of a number, as many as the field is wide
unfoldable pub to_bytes : ℕ → ℕ → List ℕ
to_bytes zero x = []
to_bytes (suc width) x = x % 256 ∷ to_bytes width (x / 256)
