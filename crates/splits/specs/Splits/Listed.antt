-- Splits of the drives 1 to n: the drives of a block, and the split that a list of blocks is, where each of these
-- drives is in exactly one of them, no other is in any, and none is empty.
use Rattle.std.specs.Prelude.{◌≡◌, Bool, true, false, ◌&&◌, cond, List, [], ◌∷◌, map, ℕ, zero, suc, ◌+◌, ◌-◌, ◌^◌, ◌≤◌, ◌<◌, length, get_or}
use Rattle.std.proofs.Common.{sym, ◌∙◌, subst, arith, eqb-true, ne_eqb}
use Rattle.std.proofs.Math.Path.{ap}
use Rattle.std.proofs.Math.Dec.{eqb, eqb-suc-suc}
use Rattle.drive_sets.specs.Bools.Laws.{by_test, clash, false_of, same_test, and_left, cond_true, cond_false, true_one}
use Rattle.drive_sets.specs.Lists.{range, filter, elem}
use Rattle.drive_sets.specs.Lists.Counts.{length_filter_true, length_filter_false}
use Rattle.drive_sets.specs.Lists.Laws.{elem_filter, elem_range, range_elem}
use Rattle.drive_sets.specs.Lists.Places.{get_or_elem, range_image}
use Rattle.drive_sets.specs.Masks.{has, full}
use Rattle.drive_sets.specs.Masks.Laws.{has_none, has_bounds, has_ext, has_some, full_has, full_lt}
use Rattle.drive_sets.specs.Masks.Sizes.{of_drives_lt, has_of_drives}
use Rattle.splits.specs.Splits.{Split, block_of, holders, Parted}

module _ (n : ℕ) (frame : n ≤ 64) where
  range_full : (d : ℕ) → elem d (range 1 n) ≡ has d (full n)
  range_full d =
      same_test (elem d (range 1 n)) (has d (full n))
      (λ h. let b = elem_range d 1 n h in full_has d n frame b.0 (omega arith))
      (λ h. let b = has_bounds n d (full n) (full_lt n) h in range_elem d 1 n b.0 (omega arith))

  module _ (block : ℕ → ℕ) (j : ℕ) where
    kept_bounds : (d : ℕ) → elem d (filter (λ x. eqb (block x) j) (range 1 n)) ≡ true → (1 ≤ d) × (d ≤ n)
    kept_bounds d h =
        let b = elem_range d 1 n (and_left (elem d (range 1 n)) (eqb (block d) j) (sym (elem_filter (λ x. eqb (block x) j) d (range 1 n)) ∙ h)) in
        (b.0, omega arith)

    pub block_of_lt : block_of n block j < 2 ^ n
    unfolding block_of
    block_of_lt = of_drives_lt n (filter (λ x. eqb (block x) j) (range 1 n)) (λ d h. (kept_bounds d h).1)

    pub has_block_of : (d : ℕ) → has d (block_of n block j) ≡ (has d (full n) && eqb (block d) j)
    unfolding block_of
    has_block_of d =
        has_of_drives d (filter (λ x. eqb (block x) j) (range 1 n)) (λ x h. let b = kept_bounds x h in (b.0, omega arith))
        ∙ (elem_filter (λ x. eqb (block x) j) d (range 1 n) ∙ ap (λ (b : Bool). b && eqb (block d) j) (range_full d))

-- ---- a list of blocks

-- a drive that no block has
first_lacks : (d b : ℕ) (blocks : List ℕ) → holders d (b ∷ blocks) ≡ 0 → has d b ≡ false
first_lacks d b blocks h = false_of (has d b) (λ e. absurd (omega (arith, length_filter_true (has d) b blocks e)))

none_held : (d : ℕ) (blocks : List ℕ) (i : ℕ) → holders d blocks ≡ 0 → has d (get_or blocks i 0) ≡ false
none_held d [] i h = has_none d
none_held d (b ∷ blocks) zero h = first_lacks d b blocks h
none_held d (b ∷ blocks) (suc i) h = none_held d blocks i (sym (length_filter_false (has d) b blocks (first_lacks d b blocks h)) ∙ h)

-- the number of the first of the blocks that has the drive
block_number : List ℕ → ℕ → ℕ
block_number [] d = 0
block_number (b ∷ blocks) d = cond (has d b) 1 (suc (block_number blocks d))

-- x is the number of the only block that has the drive
record Number (d : ℕ) (blocks : List ℕ) (x : ℕ) : Type 0 where
  low : 1 ≤ x
  high : x ≤ length blocks
  only : (i : ℕ) → has d (get_or blocks i 0) ≡ eqb x (suc i)

numbered : (d : ℕ) (blocks : List ℕ) → holders d blocks ≡ 1 → Number d blocks (block_number blocks d)
unfolding block_number filter
numbered d [] h = absurd (omega arith)
numbered d (b ∷ blocks) h =
    by_test (has d b)
    (λ e. subst (Number d (b ∷ blocks)) (sym (cond_true _ _ e)) (record { low = omega arith; high = omega arith; only = here e }))
    (λ e. let rest = numbered d blocks (sym (length_filter_false (has d) b blocks e) ∙ h) in
    subst (Number d (b ∷ blocks)) (sym (cond_false _ _ e)) (record { low = omega arith; high = omega (arith, rest.high); only = later e rest }))
  where
    here : has d b ≡ true → (i : ℕ) → has d (get_or (b ∷ blocks) i 0) ≡ eqb 1 (suc i)
    here e zero = e
    here e (suc i) = none_held d blocks i (omega (arith, length_filter_true (has d) b blocks e)) ∙ sym (ne_eqb 1 (suc (suc i)) (λ q. absurd (omega arith)))

    later : has d b ≡ false → {x : ℕ} → Number d blocks x → (i : ℕ) → has d (get_or (b ∷ blocks) i 0) ≡ eqb (suc x) (suc i)
    later e {x} rest zero = e ∙ sym (ne_eqb (suc x) 1 (λ q. absurd (omega (arith, rest.low))))
    later e {x} rest (suc i) = rest.only i ∙ sym (eqb-suc-suc x (suc i))

module _ (n : ℕ) (frame : n ≤ 64) (blocks : List ℕ) (parted : Parted n blocks) (none_empty : elem 0 blocks ≡ false) where
  number : (d : ℕ) → 1 ≤ d → d ≤ n → Number d blocks (block_number blocks d)
  number d p q = numbered d blocks (parted.one d ∙ true_one (full_has d n frame p q))

  below : (i : ℕ) → i < length blocks → get_or blocks i 0 < 2 ^ n
  below i h = parted.within (get_or blocks i 0) (get_or_elem blocks i h)

  number_block : (j : ℕ) → j < length blocks → get_or blocks j 0 ≡ block_of n (block_number blocks) (1 + j)
  number_block j h =
      has_ext n (get_or blocks j 0) (block_of n (block_number blocks) (1 + j)) (below j h) (block_of_lt n frame (block_number blocks) (1 + j))
      (λ d p q. (number d p q).only j
      ∙ (ap (eqb (block_number blocks d)) place
      ∙ sym (has_block_of n frame (block_number blocks) (1 + j) d ∙ ap (λ (b : Bool). b && eqb (block_number blocks d) (1 + j)) (full_has d n frame p q))))
    where
      place : suc j ≡ 1 + j
      place = omega arith

  -- a drive of the block at place i
  member : (i : ℕ) → i < length blocks → (d : ℕ) × (1 ≤ d) × (d ≤ n) × (block_number blocks d ≡ suc i)
  member i h =
      let d = has_some n (get_or blocks i 0) (below i h) (λ z. clash (subst (λ (b : ℕ). elem b blocks ≡ true) z (get_or_elem blocks i h)) none_empty) in
      let b = has_bounds n d.0 (get_or blocks i 0) (below i h) d.1 in
      (d.0, b.0, b.1, eqb-true (block_number blocks d.0) (suc i) (sym ((number d.0 b.0 b.1).only i) ∙ d.1))

  number_split : Split (length blocks) n (block_number blocks)
  number_split = record {
    low = λ d p q. (number d p q).low;
    high = λ d p q. (number d p q).high;
    none_empty = λ j p q. let d = member (j - 1) (omega arith) in (d.0, d.1, d.2, omega (arith, d.3));
  }

  -- the blocks are those of a split
  pub split_of_blocks : (block : ℕ → ℕ) × Split (length blocks) n block × (blocks ≡ map (block_of n block) (range 1 (length blocks)))
  split_of_blocks = (block_number blocks, number_split, range_image (block_of n (block_number blocks)) blocks 1 number_block)
