-- Lists of numbers: a range, those that pass a test, tests of all and of some, the smallest value on a list and the
-- first. All of it computes on numerals.
use Rattle.std.specs.Prelude.{Bool, true, false, not, ◌&&◌, ◌||◌, cond, List, [], ◌∷◌, ℕ, zero, suc, ◌+◌, min, eqb, None, Some}
use Rattle.std.proofs.Math.Option.{Option, none, some, or_else}
use Rattle.drive_sets.specs.Positions.{Position}
pub mod Laws
pub mod Distinct
pub mod Counts
pub mod Smallest
pub mod FirstSome
pub mod FirstFailing
pub mod Places
pub mod Times
pub mod Takes

-- a, a + 1, .., k of them
unfoldable pub range : ℕ → ℕ → List ℕ
range a zero = []
range a (suc k) = a ∷ range (suc a) k

-- the elements that pass the test, in their order
unfoldable pub filter : (ℕ → Bool) → List ℕ → List ℕ
filter p [] = []
filter p (x ∷ l) =
    let rest = filter p l in
    let more = x ∷ rest in
    cond (p x) more rest

-- every element passes the test
unfoldable pub all : (ℕ → Bool) → List ℕ → Bool
all p [] = true
all p (x ∷ l) = p x && all p l

-- some element passes the test
unfoldable pub any : (ℕ → Bool) → List ℕ → Bool
any p [] = false
any p (x ∷ l) = p x || any p l

-- the position of the first element that fails the test, the list's first being at position i; none where all pass
unfoldable pub first_failing : ℕ → (ℕ → Bool) → List ℕ → Position
first_failing i p [] = None
first_failing i p (x ∷ l) =
    let later = first_failing (i + 1) p l in
    let here = Some i in
    cond (p x) later here

-- x stands in the list
unfoldable pub elem : ℕ → List ℕ → Bool
elem x l = any (eqb x) l

-- each element stands before all that follow it: strictly ordered
unfoldable pub ordered : (ℕ → ℕ → Bool) → List ℕ → Bool
ordered before [] = true
ordered before (x ∷ l) = all (before x) l && ordered before l

-- no element occurs twice
unfoldable pub distinct : List ℕ → Bool
distinct [] = true
distinct (x ∷ l) = not (elem x l) && distinct l

-- the smaller of a and b, where there is a b
unfoldable pub smaller : ℕ → Option ℕ → ℕ
smaller a none = a
smaller a (some b) = min a b

-- the smallest value of f on the list; none where the list is empty
unfoldable pub smallest : (ℕ → ℕ) → List ℕ → Option ℕ
smallest f [] = none
smallest f (x ∷ l) = some (smaller (f x) (smallest f l))

-- the first value that f has on the list, f being partial
unfoldable pub first_some : (ℕ → Option ℕ) → List ℕ → Option ℕ
first_some f [] = none
first_some f (x ∷ l) = or_else (f x) (first_some f l)

-- how often x stands in the list
unfoldable pub times : ℕ → List ℕ → ℕ
times x [] = 0
times x (y ∷ l) =
    let rest = times x l in
    let more = suc rest in
    cond (eqb x y) more rest
