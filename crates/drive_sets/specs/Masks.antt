-- Sets of drives as masks: bit 0 (value 1) of a 64-bit number is drive 1. All of it computes on numerals.
-- A drive is a process of the system; its number is 1 to 64, so 0 and 65 are in no set.
use Rattle.std.specs.Prelude.{◌≡◌, Bool, true, false, not, cond, List, [], ◌∷◌, ℕ, zero, suc, ◌-◌, ◌/◌, ◌%◌, ◌^◌, ◌<◌, min, eqb, ltb}
use Rattle.std.specs.Int.Bits.{bit_and, bit_or, bit_xor}
use Rattle.std.specs.Int.Count.{ones_in, count_trailing_zeros}
use Rattle.drive_sets.specs.Lists.{range, filter, elem}
pub mod Bits
pub mod Laws
pub mod Outside
pub mod Sizes
pub mod Lowest
pub mod OneDrive
pub mod Frames
pub mod Tests

-- drive d is in m
unfoldable pub has : ℕ → ℕ → Bool
has zero m = false
has (suc i) m = eqb (m / 2 ^ i % 2) 1

-- the set of one drive; a number that is no drive's gives the empty set
unfoldable pub single : ℕ → ℕ
single zero = 0
single (suc i) = cond (ltb i 64) (2 ^ i) 0

-- the drives 1 to n
unfoldable pub full : ℕ → ℕ
full n = 2 ^ min n 64 - 1

-- the drives of a or b, of a and b, of a and not of b, of only one of the two
unfoldable pub union : ℕ → ℕ → ℕ
union a b = bit_or a b

unfoldable pub common : ℕ → ℕ → ℕ
common a b = bit_and a b

unfoldable pub minus : ℕ → ℕ → ℕ
minus a b = a - bit_and a b

unfoldable pub only_one : ℕ → ℕ → ℕ
only_one a b = bit_xor a b

-- the drives 1 to n outside m
unfoldable pub outside : ℕ → ℕ → ℕ
outside n m = minus (full n) m

-- a and b share a drive
unfoldable pub meets : ℕ → ℕ → Bool
meets a b = not (eqb (bit_and a b) 0)

-- every drive of a is in b
unfoldable pub subset : ℕ → ℕ → Bool
subset a b = eqb (bit_and a b) a

-- no set of the list has a drive above n
abbrev pub Below : ℕ → List ℕ → Type 0
Below n sets = (s : ℕ) → elem s sets ≡ true → s < 2 ^ n

-- how many drives m has: the count of ones
unfoldable pub size : ℕ → ℕ
size m = ones_in 64 m

-- the lowest drive of m; 65 where m is empty
unfoldable pub lowest : ℕ → ℕ
lowest m = suc (count_trailing_zeros 64 m)

-- the set of that drive alone: m - 1 has the other drives of m and not this one. Empty where m is
unfoldable pub lowest_alone : ℕ → ℕ
lowest_alone m = minus m (m - 1)

-- the drives of m, rising, and the set of a list of drives
unfoldable pub drives : ℕ → List ℕ
drives m = filter (λ d. has d m) (range 1 64)

unfoldable pub of_drives : List ℕ → ℕ
of_drives [] = 0
of_drives (d ∷ ds) = union (single d) (of_drives ds)
