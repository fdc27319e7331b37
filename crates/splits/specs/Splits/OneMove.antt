-- One move, of the lowest drive of a block with two or more to an empty block: the blocks stay parted, each is part of
-- one before, and one fewer is empty.
use Rattle.std.specs.Prelude.{◌≡◌, Bool, true, false, not, ◌&&◌, ◌⊎◌, List, ℕ, ◌+◌, ◌^◌, ◌≤◌, ◌<◌, eqb, length, set}
use Rattle.std.proofs.Common.{sym, ◌∙◌, subst, lt_of_lt_of_le, pow_mono, eqb-true, ne_eqb}
use Rattle.std.proofs.Math.Path.{ap}
use Rattle.std.proofs.Math.Bool.{and-true}
use Rattle.std.proofs.Math.Logic.{inl, inr, ⊎_elim}
use native.Mathlib.Omega.{arith}
use Rattle.std.proofs.Math.ListN.{get_or, length-set}
use Rattle.std.proofs.Math.Seq.{get_or-set_other}
use Rattle.drive_sets.specs.Bools.{as_number}
use Rattle.drive_sets.specs.Bools.Laws.{by_test, and_fails_right, true_one, false_zero}
use Rattle.drive_sets.specs.Lists.{filter, elem}
use Rattle.drive_sets.specs.Lists.Counts.{length_filter_set}
use Rattle.drive_sets.specs.Lists.Places.{get_or_elem, elem_set}
use Rattle.drive_sets.specs.Masks.{has, single, minus, subset, size, lowest}
use Rattle.drive_sets.specs.Masks.Laws.{has_none, has_single, has_bounds, minus_lt, single_lt, subset_refl, subset_minus}
use Rattle.drive_sets.specs.Masks.OneDrive.{has_remove}
use Rattle.drive_sets.specs.Masks.Sizes.{size_none, size_single, size_remove, single_subset, lowest_has}
use Rattle.splits.specs.Splits.{holders, empties, Parted, PartOf, with_move}

-- the block at place i has a drive to spare for the empty one at place j
pub record Movable (blocks : List ℕ) (i j : ℕ) : Type 0 where
  pub from : i < length blocks
  pub to : j < length blocks
  pub large : 2 ≤ size (get_or blocks i 0)
  pub empty : get_or blocks j 0 ≡ 0

-- a set with a drive is not empty
some_drive : (b : ℕ) → 1 ≤ size b → eqb b 0 ≡ false
some_drive b h = ne_eqb b 0 (λ e. absurd (omega (arith, ap size e, size_none)))

module _ (n : ℕ) (frame : n ≤ 64) (blocks : List ℕ) (before : Parted n blocks) (i j : ℕ) (m : Movable blocks i j) where
  abbrev block : ℕ
  block = get_or blocks i 0

  abbrev low : ℕ
  low = lowest block

  abbrev rest : ℕ
  rest = minus block (single low)

  abbrev after : List ℕ
  after = with_move blocks i j

  listed : elem block blocks ≡ true
  listed = get_or_elem blocks i m.from

  below : block < 2 ^ n
  below = before.within block listed

  has_low : has low block ≡ true
  has_low = lowest_has block (lt_of_lt_of_le below (pow_mono {i = n} {j = 64} frame)) (λ z. absurd (omega (arith, ap size z, size_none)))

  bounds : (1 ≤ low) × (low ≤ n)
  bounds = has_bounds n low block below has_low

  most : low ≤ 64
  most = omega (arith, bounds.1)

  differ : j ≡ i → ⊥
  differ e = absurd (omega (arith, ap (λ (x : ℕ). size (get_or blocks x 0)) e, ap size m.empty, size_none))

  -- ---- the blocks afterwards

  after_cases : (x : ℕ) → elem x after ≡ true → (x ≡ single low) ⊎ ((x ≡ rest) ⊎ (elem x blocks ≡ true))
  unfolding with_move
  after_cases x e = ⊎_elim (λ q. inl q) (λ q. inr (elem_set x blocks i rest q)) (elem_set x (set blocks i rest) j (single low) e)

  -- how many pass a test: two blocks give way to two others
  count_after : (p : ℕ → Bool) → length (filter p after) + as_number (p block) + as_number (p 0) ≡ length (filter p blocks) + as_number (p rest) + as_number (p (single low))
  unfolding with_move
  count_after p =
      let was : get_or (set blocks i rest) j 0 ≡ 0 = get_or-set_other blocks i j rest 0 differ ∙ m.empty in
      omega (
        arith,
        length_filter_set p blocks i rest m.from,
        length_filter_set p (set blocks i rest) j (single low) (omega (arith, length-set blocks i rest)),
        ap (λ (x : ℕ). as_number (p x)) was,
      )

  -- ---- what a move keeps

  pub move_part : PartOf after blocks
  move_part x e =
      ⊎_elim
      (λ q. (block, listed, ap (λ (y : ℕ). subset y block) q ∙ single_subset low block bounds.0 most has_low))
      (λ w. ⊎_elim
      (λ q. (block, listed, ap (λ (y : ℕ). subset y block) q ∙ subset_minus n block (single low) below))
      (λ h. (x, h, subset_refl x)) w)
      (after_cases x e)

  pub move_keeps : Parted n after
  move_keeps = record { within = within; one = λ d. same d ∙ before.one d }
    where
      within : (x : ℕ) → elem x after ≡ true → x < 2 ^ n
      within x e =
          ⊎_elim
          (λ q. subst (λ (y : ℕ). y < 2 ^ n) (sym q) (single_lt n low bounds.1))
          (λ w. ⊎_elim (λ q. subst (λ (y : ℕ). y < 2 ^ n) (sym q) (minus_lt n block (single low) below)) (λ h. before.within x h) w)
          (after_cases x e)

      same : (d : ℕ) → holders d after ≡ holders d blocks
      same d =
          let counts = count_after (has d) in
          let left = has_remove low bounds.0 most d block in
          let alone = has_single d low bounds.0 most in
          let none = false_zero (has_none d) in
          by_test (eqb d low)
          (λ e. omega (
            arith,
            none,
            true_one (ap (λ (y : ℕ). has y block) (eqb-true d low e) ∙ has_low),
            false_zero (left ∙ and_fails_right (has d block) (ap not e)),
            true_one (alone ∙ e),
          ))
          (λ e. omega (
            arith,
            none,
            ap (λ (b : Bool). as_number b) (left ∙ (ap (λ (b : Bool). has d block && not b) e ∙ and-true (has d block))),
            false_zero (alone ∙ e),
          ))

  -- one block fewer is empty
  pub move_fills : empties after + 1 ≡ empties blocks
  move_fills =
      let counts = count_after (λ b. eqb b 0) in
      omega (
        arith,
        false_zero (some_drive block (omega arith)),
        false_zero (some_drive rest (omega (arith, size_remove low block bounds.0 most has_low))),
        false_zero (some_drive (single low) (omega (arith, size_single low bounds.0 most))),
      )
