-- The parts of some bytes: up to a place, and from a place on.
use mathlib.Core.Path.{◌≡◌, sym, ap, ◌∙◌}
use mathlib.Core.List.{List}
use Prim.Native.Nat.{ℕ, ◌-◌, ◌<◌}
use native.Mathlib.Nat.{le_of_eq, le_of_lt, sub-zero}
use lib.ListN.{length, take, drop, length-drop, drop_of_length-le}
use lib.Seq.{take_all, drop-length}
use native.Mathlib.Omega.{arith}

-- a part up to the end is what stands from its place on
pub rest_is : (s : List ℕ) (start : ℕ) → take (length s - start) (drop start s) ≡ drop start s
rest_is s start = take_all (length s - start) (drop start s) (le_of_eq (length-drop start s))

-- past the end nothing stands
pub rest_past : (s : List ℕ) (size : ℕ) → length s < size → take (length s - length s) (drop (length s) s) ≡ drop size s
rest_past s size h = rest_is s (length s) ∙ (drop-length s ∙ sym (drop_of_length-le s (le_of_lt h)))

-- the first part: all where there are fewer, else so many
pub first_all : (s : List ℕ) (size : ℕ) → length s < size → take (length s - 0) s ≡ take size s
first_all s size h = take_all (length s - 0) s (omega arith) ∙ sym (take_all size s (omega arith))

pub first_some_law : (s : List ℕ) (size : ℕ) → take (size - 0) s ≡ take size s
first_some_law s size = ap (λ (k : ℕ). take k s) (sub-zero size)
