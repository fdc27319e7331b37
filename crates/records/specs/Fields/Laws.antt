-- Laws of byte fields over the width: what is written is read back, and a field of bytes is below its limit.
use Rattle.std.specs.Prelude.{◌≡◌, refl, List, [], ◌∷◌, ℕ, zero, suc, ◌+◌, ◌*◌, ◌/◌, ◌%◌, ◌^◌, ◌≤◌, ◌<◌, length, get_or, take, drop}
use Rattle.std.proofs.Common.{sym, ap, ap₂, ◌∙◌, subst, pow-suc, mod-lt, mod-eq_of_lt, zero-lt-suc, arith, length-take, get_or-drop}
use Rattle.std.proofs.Math.Nat.{mod-one}
use Rattle.std.proofs.Math.Arith.{mod-mul}
use Rattle.records.specs.Fields.{Bytes, from_bytes, field_at, to_bytes}

-- ---- numbers and bytes

pub length_to_bytes : (width x : ℕ) → length (to_bytes width x) ≡ width
unfolding to_bytes
length_to_bytes zero x = refl
length_to_bytes (suc width) x = ap suc (length_to_bytes width (x / 256))

pub to_bytes_lt : (width x i : ℕ) → get_or (to_bytes width x) i 0 < 256
unfolding to_bytes
to_bytes_lt zero x i = omega arith
to_bytes_lt (suc width) x zero = mod-lt x (zero-lt-suc 255)
to_bytes_lt (suc width) x (suc i) = to_bytes_lt width (x / 256) i

power_pos : (k : ℕ) → 0 < 256 ^ k
power_pos zero = omega arith
power_pos (suc k) = rw pow-suc (omega (arith, power_pos k))

-- reading what was written gives the number
pub from_bytes_to_bytes : (width x : ℕ) → from_bytes (to_bytes width x) ≡ x % 256 ^ width
unfolding from_bytes to_bytes
from_bytes_to_bytes zero x = sym (mod-one x)
from_bytes_to_bytes (suc width) x =
    let rest = from_bytes_to_bytes width (x / 256) in
    let whole = mod-mul x {m = 256 ^ width} {c = 256} (power_pos width) (omega arith) in
    rw pow-suc (omega arith)

pub field_back : (width x : ℕ) → x < 256 ^ width → from_bytes (to_bytes width x) ≡ x
field_back width x h = from_bytes_to_bytes width x ∙ mod-eq_of_lt h

-- writing what was read gives the bytes
pub bytes_back : (bs : List ℕ) → Bytes bs → to_bytes (length bs) (from_bytes bs) ≡ bs
unfolding from_bytes to_bytes
bytes_back [] h = refl
bytes_back (b ∷ bs) h =
    ap₂ (λ (x : ℕ) (l : List ℕ). x ∷ l) low (ap (to_bytes (length bs)) high ∙ bytes_back bs (λ i. h (suc i)))
  where
    low : (b + 256 * from_bytes bs) % 256 ≡ b
    low = omega (arith, h 0)

    high : (b + 256 * from_bytes bs) / 256 ≡ from_bytes bs
    high = omega (arith, h 0)

pub from_bytes_lt : (width : ℕ) (bs : List ℕ) → length bs ≤ width → Bytes bs → from_bytes bs < 256 ^ width
unfolding from_bytes
from_bytes_lt width [] le h = power_pos width
from_bytes_lt zero (b ∷ bs) le h = absurd (omega arith)
from_bytes_lt (suc width) (b ∷ bs) le h = rw pow-suc (omega (arith, h 0, from_bytes_lt width bs (omega arith) (λ i. h (suc i))))

-- ---- parts of some bytes, and their fields

pub bytes_take : (n : ℕ) (s : List ℕ) → Bytes s → Bytes (take n s)
bytes_take zero s h i = omega arith
bytes_take (suc n) [] h i = omega arith
bytes_take (suc n) (x ∷ s) h zero = h 0
bytes_take (suc n) (x ∷ s) h (suc i) = bytes_take n s (λ j. h (suc j)) i

pub bytes_drop : (k : ℕ) (s : List ℕ) → Bytes s → Bytes (drop k s)
bytes_drop k s h i = subst (λ (x : ℕ). x < 256) (sym (get_or-drop k s i 0)) (h (k + i))

-- a field of at most so many bytes
pub field_lt : (place width most : ℕ) (s : List ℕ) → width ≤ most → Bytes s → field_at place width s < 256 ^ most
field_lt place width most s h bytes =
    from_bytes_lt most (take width (drop place s)) (omega (arith, length-take width (drop place s))) (bytes_take width (drop place s) (bytes_drop place s bytes))

-- two bytes are the lowest two of four
pub low_two : (s : List ℕ) → Bytes s → from_bytes (take 2 s) ≡ from_bytes (take 4 s) % 65536
unfolding from_bytes
low_two [] h = refl
low_two (a ∷ []) h = omega (arith, h 0)
low_two (a ∷ b ∷ []) h = omega (arith, h 0, h 1)
low_two (a ∷ b ∷ c ∷ []) h = omega (arith, h 0, h 1)
low_two (a ∷ b ∷ c ∷ d ∷ s) h = omega (arith, h 0, h 1)
