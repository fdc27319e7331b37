-- The loops that ask: the drive that the fewest sets lack, and the places that some columns have in common.
use mathlib.Core.Path.{◌≡◌, sym, ap, ◌∙◌, subst}
use mathlib.Core.Bool.{true, false, ◌||◌}
use mathlib.Core.Logic.{◌⊎◌, ⊎_elim}
use mathlib.Core.List.{List}
use Prim.Native.Nat.{ℕ, suc, ◌+◌, ◌*◌, ◌/◌, ◌%◌, ◌^◌, ◌<◌}
use native.Mathlib.Nat.{add-zero}
use native.Mathlib.Omega.{arith}
use native.Mathlib.Numerals.{add-one}
use lib.Bits.{bit_or}
use lib.Dec.{ltb}
use lib.ListN.{get_or}
use borrow.Author.Tests.{ltb-true, ltb-false}
use Rattle.drive_sets.specs.Bools.Laws.{clash, by_test, and_not, or_false_left, or_false_right}
use Rattle.drive_sets.specs.Loops.Drives.{Taken, taken_has, taken_lt, taken_left}
use Rattle.drive_sets.specs.Masks.{has, full, union, common, lowest}
use Rattle.drive_sets.specs.Masks.Laws.{has_none, has_union, has_common, full_has, has_bounds}
use Rattle.drive_sets.specs.Masks.Sizes.{lowest_has}
use Rattle.verdict_search.specs.Columns.{has_place, EachMet}

-- ---- the drives of a mask from the lowest on, by their indexes

pub index_has : {m i : ℕ} → m < 2 ^ 64 → (m ≡ 0 → ⊥) → suc i ≡ lowest m → has (suc i) m ≡ true
index_has {m} lt ne e = ap (λ (d : ℕ). has d m) e ∙ lowest_has m lt ne

-- one of the drives is chosen, and the rest are to come
pub record Choosing (m best rest : ℕ) : Type 0 where
  pub word : rest < 2 ^ 64
  pub part : (d : ℕ) → has d rest ≡ true → has d m ≡ true
  pub chosen : has (suc best) m ≡ true

pub choosing_start : {m i others : ℕ} → Taken m (suc i) others → Choosing m i others
choosing_start t = record { word = taken_lt t 64 t.word; part = λ d h. taken_left t d h; chosen = taken_has t }

pub choosing_turn : {m best rest i others : ℕ} (best' : ℕ) → Choosing m best rest → Taken rest (suc i) others → (best' ≡ i) ⊎ (best' ≡ best) → Choosing m best' others
choosing_turn {m} {best} {i = i} best' w t which = record {
  word = taken_lt t 64 w.word;
  part = λ d h. w.part d (taken_left t d h);
  chosen = ⊎_elim (λ e. ap (λ (x : ℕ). has (suc x) m) e ∙ w.part (suc i) (taken_has t)) (λ e. ap (λ (x : ℕ). has (suc x) m) e ∙ w.chosen) which;
}

pub choosing_end : {m best rest : ℕ} → m < 2 ^ 64 → Choosing m best rest → (has (best + 1) m ≡ true) × (best < 64)
choosing_end {m} {best} lt w = (ap (λ (d : ℕ). has d m) (add-one best) ∙ w.chosen, (has_bounds 64 (suc best) m lt w.chosen).1)

-- ---- places that all the columns seen have in common

-- a place that is missing from the word is missing from the column of some drive of m
abbrev pub Seen : List ℕ → ℕ → ℕ → ℕ → Type 0
Seen columns m half word = (i : ℕ) → i < 64 → has (suc i) word ≡ false → (e : ℕ) × (has (suc e) m ≡ true) × (has (suc i) (get_or columns (2 * e + half) 0) ≡ false)

pub record Meeting (columns : List ℕ) (m low high rest : ℕ) : Type 0 where
  pub word : rest < 2 ^ 64
  pub part : (d : ℕ) → has d rest ≡ true → has d m ≡ true
  pub lows : Seen columns m 0 low
  pub highs : Seen columns m 1 high

seen_all : (columns : List ℕ) (m half : ℕ) → Seen columns m half 0xffff_ffff_ffff_ffff
unfolding full
seen_all columns m half i lt e = absurd (clash (full_has (suc i) 64 (omega arith) (omega arith) lt) e)

pub meeting_start : (columns : List ℕ) (m : ℕ) → m < 2 ^ 64 → Meeting columns m 0xffff_ffff_ffff_ffff 0xffff_ffff_ffff_ffff m
meeting_start columns m lt = record { word = lt; part = λ d h. h; lows = seen_all columns m 0; highs = seen_all columns m 1 }

module _ {columns : List ℕ} {m low high rest : ℕ} (d : ℕ) (w : Meeting columns m low high rest) (h : has (suc d) rest ≡ true) where
  seen_turn : (half word : ℕ) → Seen columns m half word → Seen columns m half (common word (get_or columns (2 * d + half) 0))
  seen_turn half word s i lt e =
      by_test (has (suc i) word)
      (λ p. (d, w.part (suc d) h, and_not (has (suc i) word) (has (suc i) (get_or columns (2 * d + half) 0)) p (sym (has_common (suc i) word (get_or columns (2 * d + half) 0)) ∙ e)))
      (λ p. s i lt p)

  low_turn : Seen columns m 0 (common low (get_or columns (2 * d) 0))
  low_turn = subst (λ (i : ℕ). Seen columns m 0 (common low (get_or columns i 0))) (add-zero (2 * d)) (seen_turn 0 low w.lows)

  pub meeting_turn : {others : ℕ} → Taken rest (suc d) others → Meeting columns m (common low (get_or columns (2 * d) 0)) (common high (get_or columns (2 * d + 1) 0)) others
  meeting_turn t = record {
    word = taken_lt t 64 w.word;
    part = λ e i. w.part e (taken_left t e i);
    lows = low_turn;
    highs = seen_turn 1 high w.highs;
  }

  pub meeting_end : bit_or (common low (get_or columns (2 * d) 0)) (common high (get_or columns (2 * d + 1) 0)) ≡ 0 → EachMet columns m
  unfolding has_place union
  meeting_end z j lt =
      by_test (ltb j 64)
      (λ e. let h : j / 64 ≡ 0 = let q = ltb-true j 64 e in omega (arith, q) in
      subst Missing (sym h) (low_turn (j % 64) (omega arith) (or_false_left _ (has (suc (j % 64)) right) neither)))
      (λ e. let h : j / 64 ≡ 1 = let q = ltb-false j 64 e in omega (arith, q, lt) in
      subst Missing (sym h) (seen_turn 1 high w.highs (j % 64) (omega arith) (or_false_right (has (suc (j % 64)) left) _ neither)))
    where
      left : ℕ
      left = common low (get_or columns (2 * d) 0)

      right : ℕ
      right = common high (get_or columns (2 * d + 1) 0)

      Missing : ℕ → Type 0
      Missing half = (e : ℕ) × (has (suc e) m ≡ true) × (has (suc (j % 64)) (get_or columns (2 * e + half) 0) ≡ false)

      neither : (has (suc (j % 64)) left || has (suc (j % 64)) right) ≡ false
      neither = sym (has_union (suc (j % 64)) left right) ∙ (ap (has (suc (j % 64))) z ∙ has_none (suc (j % 64)))
