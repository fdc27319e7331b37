-- Positions in a list, counted from 1, or none: the position as a number.
use Rattle.std.specs.Prelude.{ℕ, Option, None, Some}
pub mod Laws

abbrev pub Position : Type 0
Position = Option ℕ

-- as a number: 0 for none
abbrev pub position_number : Position → ℕ
position_number None = 0
position_number (Some k) = k
