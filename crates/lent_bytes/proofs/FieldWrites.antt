-- The loop that writes a field, from its first byte to its last.
use mathlib.Core.Path.{◌≡◌, sym, ap, ◌∙◌}
use mathlib.Core.List.{List, ◌∷◌}
use Prim.Native.Nat.{ℕ, suc, ◌+◌, ◌-◌, ◌/◌, ◌%◌, ◌≤◌, ◌<◌}
use native.Mathlib.Omega.{arith}
use lib.ListN.{length}
use Rattle.drive_sets.specs.Loops.Filling.{Filling, filling_end}
use Rattle.records.specs.Fields.{to_bytes}
use Rattle.drive_sets.specs.Lent.{written}
use Rattle.records.specs.Fields.Laws.{length_to_bytes}
use Rattle.drive_sets.specs.Lent.Laws.{written_fits, written_none}

-- the next byte of what is left of the field
pub field_next : (width y i : ℕ) → i < width → to_bytes (width - i) y ≡ y % 256 ∷ to_bytes (width - (i + 1)) (y / 256)
unfolding to_bytes
field_next width y i h = let more : width - i ≡ suc (width - (i + 1)) = omega arith in ap (λ (k : ℕ). to_bytes k y) more

pub writing_end : (width x y : ℕ) {old part : List ℕ} {i : ℕ} → width ≤ length old → Filling old part i (to_bytes (width - i) y) (to_bytes width x) → width ≤ i
    → part ≡ written (to_bytes width x) old
unfolding to_bytes
writing_end width x y {old} {i = i} fits f h =
    let none : width - i ≡ 0 = omega arith in
    filling_end f (ap (λ (k : ℕ). to_bytes k y) none) ∙ sym (written_fits (to_bytes width x) old (omega (arith, length_to_bytes width x)))

-- where the field does not fit, nothing is written
pub writing_none : (old : List ℕ) (width x : ℕ) → length old < width → old ≡ written (to_bytes width x) old
writing_none old width x h = sym (written_none (to_bytes width x) old (omega (arith, length_to_bytes width x)))
