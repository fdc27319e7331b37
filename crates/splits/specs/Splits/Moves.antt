-- The moves that leave no block empty. They keep the blocks parted, and each block afterwards is part of one before.
-- Where the frame has no fewer drives than there are blocks, one has two or more while one is empty, so each move takes
-- one from the number of empty blocks, and the moves end with none.
use Rattle.std.specs.Prelude.{◌≡◌, true, false, List, [], ◌∷◌, length, get_or, None, Some}
use Rattle.std.proofs.Math.Path.{refl}
use Rattle.std.proofs.Common.{sym, ap, ◌∙◌, length-set, eqb-true, leb-true, leb-false}
use Rattle.std.proofs.Math.Bool.{not}
use Prim.Native.Nat.{ℕ, zero, suc, ◌+◌, ◌-◌, ◌^◌, ◌≤◌, ◌<◌}
use native.Mathlib.Omega.{arith}
use Rattle.std.proofs.Math.Dec.{eqb, leb}
use Rattle.std.proofs.lemmas.Bool.{not-true, not-false}
use Rattle.drive_sets.specs.Positions.{Position}
use Rattle.drive_sets.specs.Bools.Laws.{by_test, false_of, and_left, and_right, true_one}
use Rattle.drive_sets.specs.Lists.{filter, all, elem}
use Rattle.drive_sets.specs.Lists.Counts.{length_filter_true, length_filter_false, length_filter_none, length_filter_elem}
use Rattle.drive_sets.specs.Lists.FirstFailing.{failing_at, failing_none}
use Rattle.drive_sets.specs.Lists.Laws.{length_filter}
use Rattle.drive_sets.specs.Masks.{has, full, common, minus, size}
use Rattle.drive_sets.specs.Masks.Laws.{has_common, has_minus, full_word, common_lt, minus_lt, none_has, has_subset, subset_refl, subset_trans}
use Rattle.drive_sets.specs.Masks.Sizes.{size_none, size_minus, size_full, size_subset}
use Rattle.splits.specs.Splits.{holders, empties, Parted, PartOf, first_empty, first_large, with_move, move_between, moved, moves, fill_empty}
use Rattle.splits.specs.Splits.OneMove.{Movable, move_part, move_keeps, move_fills}

-- ---- while a block is empty, one has two drives or more

-- sets of at most one drive each that have all drives of m: they are at least as many as these, beside the empty ones
crowded : (blocks : List ℕ) (m : ℕ) → m < 2 ^ 64 → all (λ b. leb (size b) 1) blocks ≡ true → ((d : ℕ) → has d m ≡ true → 1 ≤ holders d blocks)
    → size m + empties blocks ≤ length blocks
unfolding all filter
crowded [] m lt small cover =
    let none : m ≡ 0 = none_has 64 m lt (λ d. false_of (has d m) (λ h. absurd (omega (arith, cover d h)))) in
    omega (arith, ap size none, size_none)
crowded (b ∷ blocks) m lt small cover =
    let rest = crowded blocks (minus m b) (minus_lt 64 m b lt) (and_right (leb (size b) 1) (all (λ x. leb (size x) 1) blocks) small) others in
    let shared = size_subset (common m b) b (has_subset 64 (common m b) b (common_lt 64 m b lt) (λ d h. and_right (has d m) (has d b) (sym (has_common d m b) ∙ h))) in
    by_test (eqb b 0)
    (λ e. omega (arith, rest, shared, size_minus m b, ap size (eqb-true b 0 e), size_none, length_filter_true (λ x. eqb x 0) b blocks e))
    (λ e. omega (arith, rest, shared, size_minus m b, leb-true (size b) 1 (and_left (leb (size b) 1) (all (λ x. leb (size x) 1) blocks) small), length_filter_false (λ x. eqb x 0) b blocks e))
  where
    others : (d : ℕ) → has d (minus m b) ≡ true → 1 ≤ holders d blocks
    others d h =
        let both = sym (has_minus d m b) ∙ h in
        let other = not-true (has d b) (and_right (has d m) (not (has d b)) both) in
        omega (arith, cover d (and_left (has d m) (not (has d b)) both), length_filter_false (has d) b blocks other)

-- ---- the moves

part_refl : (blocks : List ℕ) → PartOf blocks blocks
part_refl blocks b e = (b, e, subset_refl b)

part_trans : (n : ℕ) (last middle first : List ℕ) → Parted n last → PartOf last middle → PartOf middle first → PartOf last first
part_trans n last middle first parted p q b e =
    let c = p b e in
    let d = q c.0 c.1 in
    (d.0, d.1, subset_trans n b c.0 d.0 (parted.within b e) c.2 d.2)

movable : (blocks : List ℕ) {from to : ℕ} → first_large blocks ≡ Some from → first_empty blocks ≡ Some to → Movable blocks (from - 1) (to - 1)
movable blocks {from = from} {to = to} q p =
    let e = failing_at (λ b. not (eqb b 0)) 1 blocks to p in
    let l = failing_at (λ b. leb (size b) 1) 1 blocks from q in
    let to_place : to - 1 ≡ e.place = omega (arith, e.at) in
    let from_place : from - 1 ≡ l.place = omega (arith, l.at) in
    record {
      from = omega (arith, l.within);
      to = omega (arith, e.within);
      large = leb-false (size (get_or blocks (from - 1) 0)) 1 (ap (λ (x : ℕ). leb (size (get_or blocks x 0)) 1) from_place ∙ l.there);
      empty = eqb-true (get_or blocks (to - 1) 0) 0 (not-false _ (ap (λ (x : ℕ). not (eqb (get_or blocks x 0) 0)) to_place ∙ e.there));
    }

length_moved : (blocks : List ℕ) → length (moved blocks) ≡ length blocks
unfolding moved with_move
length_moved blocks = go (first_large blocks) (first_empty blocks)
  where
    go : (from to : Position) → length (move_between blocks from to) ≡ length blocks
    go None to = refl
    go (Some from) None = refl
    go (Some from) (Some to) = simp length-set

length_moves : (left : ℕ) (blocks : List ℕ) → length (moves left blocks) ≡ length blocks
unfolding moves
length_moves zero blocks = refl
length_moves (suc left) blocks = length_moves left (moved blocks) ∙ length_moved blocks

pub length_fill : (blocks : List ℕ) → length (fill_empty blocks) ≡ length blocks
unfolding fill_empty
length_fill blocks = length_moves (length blocks) blocks

module _ (n : ℕ) (frame : n ≤ 64) where
  pub moved_keeps : (blocks : List ℕ) → Parted n blocks → Parted n (moved blocks) × PartOf (moved blocks) blocks
  unfolding moved
  moved_keeps blocks before = go (first_large blocks) (first_empty blocks) refl refl
    where
      go : (from to : Position) → first_large blocks ≡ from → first_empty blocks ≡ to → Parted n (move_between blocks from to) × PartOf (move_between blocks from to) blocks
      go None to p q = (before, part_refl blocks)
      go (Some from) None p q = (before, part_refl blocks)
      go (Some from) (Some to) p q =
          let m = movable blocks p q in
          (move_keeps n frame blocks before (from - 1) (to - 1) m, move_part n frame blocks before (from - 1) (to - 1) m)

  -- each move takes one from the number of empty blocks, until there is none
  pub moved_fills : (blocks : List ℕ) → Parted n blocks → length blocks ≤ n → empties (moved blocks) ≡ empties blocks - 1
  unfolding moved
  moved_fills blocks before few = go (first_large blocks) (first_empty blocks) refl refl
    where
      go : (from to : Position) → first_large blocks ≡ from → first_empty blocks ≡ to → empties (move_between blocks from to) ≡ empties blocks - 1
      go None to p q =
          omega (arith, size_full n frame, crowded blocks (full n) (full_word n) ((failing_none (λ b. leb (size b) 1) 1 blocks).0 p) (λ d h. omega (arith, before.one d, true_one h)))
      go (Some from) None p q = omega (arith, length_filter_none (λ b. eqb b 0) blocks ((failing_none (λ b. not (eqb b 0)) 1 blocks).0 q))
      go (Some from) (Some to) p q = omega (arith, move_fills n frame blocks before (from - 1) (to - 1) (movable blocks p q))

  moves_keep : (left : ℕ) (blocks : List ℕ) → Parted n blocks → Parted n (moves left blocks) × PartOf (moves left blocks) blocks
  unfolding moves
  moves_keep zero blocks before = (before, part_refl blocks)
  moves_keep (suc left) blocks before =
      let first = moved_keeps blocks before in
      let rest = moves_keep left (moved blocks) first.0 in
      (rest.0, part_trans n (moves left (moved blocks)) (moved blocks) blocks rest.0 rest.1 first.1)

  moves_fill : (left : ℕ) (blocks : List ℕ) → Parted n blocks → length blocks ≤ n → empties (moves left blocks) ≡ empties blocks - left
  unfolding moves
  moves_fill zero blocks before few = omega arith
  moves_fill (suc left) blocks before few =
      moves_fill left (moved blocks) (moved_keeps blocks before).0 (omega (arith, length_moved blocks)) ∙ omega (arith, moved_fills blocks before few)

  pub fill_keeps : (blocks : List ℕ) → Parted n blocks → Parted n (fill_empty blocks) × PartOf (fill_empty blocks) blocks
  unfolding fill_empty
  fill_keeps blocks before = moves_keep (length blocks) blocks before

  -- afterwards no block is empty
  pub fill_ends : (blocks : List ℕ) → Parted n blocks → length blocks ≤ n → elem 0 (fill_empty blocks) ≡ false
  unfolding fill_empty
  fill_ends blocks before few =
      false_of (elem 0 (moves (length blocks) blocks)) (λ e. absurd (omega (
        arith,
        length_filter_elem (λ b. eqb b 0) 0 (moves (length blocks) blocks) e refl,
        moves_fill (length blocks) blocks before few,
        length_filter (λ b. eqb b 0) blocks,
      )))
