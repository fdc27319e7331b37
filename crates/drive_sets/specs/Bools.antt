-- Tests of numbers as sets of numbers, and a test's answer as a number.
use Rattle.std.specs.Prelude.{◌≡◌, Bool, true, false, ℕ}
pub mod Laws

infix 4 ◌⊆◌
-- every number of the set p is in the set q
abbrev pub ◌⊆◌ : (ℕ → Bool) → (ℕ → Bool) → Type 0
p ⊆ q = (x : ℕ) → p x ≡ true → q x ≡ true

-- 1 for true, 0 for false
abbrev pub as_number : Bool → ℕ
as_number true = 1
as_number false = 0
