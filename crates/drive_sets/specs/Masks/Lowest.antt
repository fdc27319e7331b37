-- A set without its lowest drive, by one `and`; what is left of it, and of a set of one drive; and the lowest drive
-- alone.
use Rattle.std.specs.Prelude.{◌≡◌, refl, true, false, not, ℕ, zero, suc, ◌+◌, ◌-◌, ◌/◌, ◌%◌, ◌^◌, ◌≤◌, ◌<◌, eqb}
use Rattle.std.proofs.Common.{sym, ap, ◌∙◌, le_refl, pow-suc, arith, eqb-true, eq-eqb, lt-ltb}
use Rattle.std.proofs.Math.Arith.{lt-one}
use Rattle.std.proofs.Math.Pow.{pow-lt}
use Rattle.std.specs.Int.Bits.{bit_and, and_step, and_self, and_zero_l}
use Rattle.std.specs.Int.Count.{count_trailing_zeros, under}
use Rattle.drive_sets.specs.Bools.Laws.{clash, same_test, cond_true}
use Rattle.drive_sets.specs.Masks.{has, single, common, minus, meets, size, lowest, lowest_alone}
use Rattle.drive_sets.specs.Masks.Bits.{half_lt, bit_one}
use Rattle.drive_sets.specs.Masks.Laws.{has_bounds, minus_lt, power_above, has_meets, meets_has}
use Rattle.drive_sets.specs.Masks.Sizes.{size_none, none_size, size_remove, single_subset, common_subset, trailing_has, trailing_lowest, lowest_has}

clear_trailing : (k m : ℕ) → m < 2 ^ k → (m ≡ 0 → ⊥) → bit_and m (m - 1) + 2 ^ count_trailing_zeros k m ≡ m
unfolding count_trailing_zeros
clear_trailing zero m h ne = absurd (ne (lt-one h))
clear_trailing (suc k) m h ne = go (λ ne'. clear_trailing k (m / 2) (half_lt k h) ne') (m % 2) refl
  where
    go : ((m / 2 ≡ 0 → ⊥) → bit_and (m / 2) (m / 2 - 1) + 2 ^ count_trailing_zeros k (m / 2) ≡ m / 2) → (r : ℕ) → m % 2 ≡ r → bit_and m (m - 1) + 2 ^ under r (count_trailing_zeros k (m / 2)) ≡ m
    go rest zero e =
        let half : (m - 1) / 2 ≡ m / 2 - 1 = omega arith in
        let tail = rest (λ z. ne (omega arith)) in
        omega (arith, and_step m (m - 1), ap (bit_and (m / 2)) half, pow-suc 2 (count_trailing_zeros k (m / 2)), tail)
    go rest (suc r) e =
        let half : (m - 1) / 2 ≡ m / 2 = omega arith in
        omega (arith, and_step m (m - 1), ap (bit_and (m / 2)) half, and_self (m / 2))

meets_power : (i m : ℕ) → meets (2 ^ i) m ≡ has (suc i) m
unfolding has
meets_power i m =
    same_test (meets (2 ^ i) m) (has (suc i) m)
    (λ h. let d = meets_has (suc i) (2 ^ i) m (pow-lt (le_refl (suc i))) h in ap (λ (e : ℕ). has e m) (sym (only d.0 d.1)) ∙ d.2)
    (λ h. has_meets (suc i) (2 ^ i) m (bit_one i i ∙ eq-eqb i i refl) h)
  where
    only : (d : ℕ) → has d (2 ^ i) ≡ true → d ≡ suc i
    only zero e = absurd (clash e refl)
    only (suc j) e = ap suc (eqb-true j i (sym (bit_one j i) ∙ e))

lowest_power : (m : ℕ) → lowest m ≤ 64 → single (lowest m) ≡ 2 ^ count_trailing_zeros 64 m
unfolding lowest single
lowest_power m le = cond_true (2 ^ count_trailing_zeros 64 m) 0 (lt-ltb (count_trailing_zeros 64 m) 64 (omega arith))

pub lowest_cleared : (m : ℕ) → m < 2 ^ 64 → (m ≡ 0 → ⊥) → bit_and m (m - 1) ≡ minus m (single (lowest m))
unfolding common minus
lowest_cleared m h ne =
    let i = lowest_has m h ne in
    let w = has_bounds 64 (lowest m) m h i in
    let alone = common_subset (single (lowest m)) m (single_subset (lowest m) m w.0 w.1 i) in
    omega (arith, clear_trailing 64 m h ne, lowest_power m w.1, alone)

-- nothing is left exactly of a set of one drive
pub one_cleared : (m : ℕ) → m < 2 ^ 64 → (m ≡ 0 → ⊥) → eqb (minus m (single (lowest m))) 0 ≡ eqb (size m) 1
one_cleared m h ne =
    let e = lowest_has m h ne in
    let w = has_bounds 64 (lowest m) m h e in
    let others = minus m (single (lowest m)) in
    let fewer = size_remove (lowest m) m w.0 w.1 e in
    same_test (eqb others 0) (eqb (size m) 1)
    (λ t. eq-eqb (size m) 1 (sym fewer ∙ ap suc (ap size (eqb-true others 0 t) ∙ size_none)))
    (λ t. eq-eqb others 0 (none_size others (minus_lt 64 m (single (lowest m)) h) (omega (arith, eqb-true (size m) 1 t))))

-- ---- the lowest drive alone

-- of a number of k digits
module _ (k m : ℕ) (h : m < 2 ^ k) (ne : m ≡ 0 → ⊥) where
  alone_power : lowest_alone m ≡ 2 ^ count_trailing_zeros k m
  unfolding lowest_alone minus
  alone_power = omega (arith, clear_trailing k m h ne)

  alone_meets : (x : ℕ) → meets (lowest_alone m) x ≡ has (suc (count_trailing_zeros k m)) x
  alone_meets x = ap (λ (s : ℕ). meets s x) alone_power ∙ meets_power (count_trailing_zeros k m) x

-- of any number that is not 0: its lowest drive, and that a set meets it exactly if it has that drive
pub lowest_alone_law : (m : ℕ) → (m ≡ 0 → ⊥)
    → (d : ℕ) × (has d m ≡ true) × ((e : ℕ) → has e m ≡ true → d ≤ e) × ((x : ℕ) → meets (lowest_alone m) x ≡ has d x)
lowest_alone_law m ne = (suc (count_trailing_zeros m m), trailing_has m m (power_above m) ne, trailing_lowest m m (power_above m), alone_meets m m (power_above m) ne)

-- the empty set has none
pub none_alone : (x : ℕ) → meets (lowest_alone 0) x ≡ false
unfolding lowest_alone minus meets
none_alone x = ap (λ (s : ℕ). not (eqb s 0)) (and_zero_l x)

-- of a set of drives
pub alone_single : (m : ℕ) → m < 2 ^ 64 → (m ≡ 0 → ⊥) → lowest_alone m ≡ single (lowest m)
alone_single m h ne = alone_power 64 m h ne ∙ sym (lowest_power m (has_bounds 64 (lowest m) m h (lowest_has m h ne)).1)
