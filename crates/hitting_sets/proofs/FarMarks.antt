-- Marked sets that share no drive with c: they are in none of the columns of its drives. Where one of them is among
-- those that are marked in both, these share nothing of c.
use mathlib.Core.Path.{◌≡◌, sym, ap, ◌∙◌}
use mathlib.Core.Bool.{true, false, not}
use mathlib.Core.Logic.{◌↔◌}
use mathlib.Core.List.{List}
use Prim.Native.Nat.{ℕ, ◌+◌, ◌-◌, ◌*◌, ◌^◌, ◌≤◌, ◌<◌}
use native.Mathlib.Omega.{arith}
use lib.Dec.{eqb}
use lib.ListN.{get_or}
use borrow.Author.Tests.{eqb-true, eqb-false, not-true}
use Rattle.drive_sets.specs.Bools.Laws.{clash, by_test, false_of, and_intro, and_left, and_right}
use Rattle.drive_sets.specs.Masks.{has, common, minus, meets}
use Rattle.drive_sets.specs.Masks.Laws.{has_none, has_common, has_minus, meets_has}
use Rattle.drive_sets.specs.Loops.Drives.{Taken, taken_lt, taken_other}
use Rattle.hitting_sets.specs.Marks.{InMarked, Apart}

pub record Sparing (columns : List ℕ) (word n c rest far : ℕ) : Type 0 where
  pub left : rest < 2 ^ 64
  pub each : (b : ℕ) → has b far ≡ true
      → (has b word ≡ true) × (b ≤ n) × ((x : ℕ) → has x c ≡ true → has x rest ≡ false → has b (get_or columns (16 * (x - 1)) 0) ≡ false)

pub sparing_start : (columns : List ℕ) (word n c first : ℕ) → c < 2 ^ 64 → ((b : ℕ) → has b first ≡ true → b ≤ n) → Sparing columns word n c c (common word first)
sparing_start columns word n c first h low = record {
  left = h;
  each = λ b e.
      let both = sym (has_common b word first) ∙ e in
      (and_left (has b word) (has b first) both, low b (and_right (has b word) (has b first) both), λ x i j. absurd (clash i j));
}

module _ {columns : List ℕ} {word n c rest far : ℕ} (y : Sparing columns word n c rest far) where
  pub sparing_turn : {d others : ℕ} → Taken rest d others → (k far' : ℕ) → k ≡ 16 * (d - 1) → far' ≡ minus far (get_or columns k 0) → Sparing columns word n c others far'
  sparing_turn {d} {others} t k far' at e = record {
    left = taken_lt t 64 y.left;
    each = λ b h.
        let both = sym (has_minus b far (get_or columns k 0)) ∙ (ap (has b) (sym e) ∙ h) in
        let w = y.each b (and_left (has b far) (not (has b (get_or columns k 0))) both) in (
          w.0,
          w.1,
          λ x i j.
              by_test (eqb x d)
              (λ q. ap (λ (z : ℕ). has b (get_or columns z 0)) (ap (λ (z : ℕ). 16 * (z - 1)) (eqb-true x d q) ∙ sym at) ∙ not-true (has b (get_or columns k 0)) (and_right (has b far) (not (has b (get_or columns k 0))) both))
              (λ q. w.2 x i (false_of (has x rest) (λ r. clash (taken_other t x r (eqb-false x d q)) j))),
        );
  }

  pub sparing_end : rest ≡ 0 → (b : ℕ) → has b far ≡ true → (has b word ≡ true) × (b ≤ n) × ((x : ℕ) → has x c ≡ true → has b (get_or columns (16 * (x - 1)) 0) ≡ false)
  sparing_end z b h = let w = y.each b h in (w.0, w.1, λ x i. w.2 x i (ap (has x) z ∙ has_none x))

  pub sparing_none : far ≡ 0 → (b : ℕ) → has b far ≡ true → (has b word ≡ true) × (b ≤ n) × ((x : ℕ) → has x c ≡ true → has b (get_or columns (16 * (x - 1)) 0) ≡ false)
  sparing_none z b h = absurd (clash h (ap (has b) z ∙ has_none b))

-- one of the sets apart is marked in the column too
pub far_decides : (sets column once : List ℕ) (far c : ℕ) → far < 2 ^ 64 → Apart sets once far c → meets far (get_or column 0 0) ≡ true
    → (x : ℕ) → (has x 0 ≡ true) ↔ ((has x c ≡ true) × ((i : ℕ) → InMarked sets (64 * i) (common (get_or once i 0) (get_or column i 0)) x))
far_decides sets column once far c far_lt a h x = (
  λ e. absurd (clash e (has_none x)),
  λ w. let b = meets_has 64 far (get_or column 0 0) far_lt h in
      let f = a b.0 b.1 in
      let there : 64 * 0 + b.0 - 1 ≡ b.0 - 1 = omega arith in
      let mark = has_common b.0 (get_or once 0 0) (get_or column 0 0) ∙ and_intro f.0 b.2 in
      absurd (clash (ap (λ (p : ℕ). has x (get_or sets p 0)) (sym there) ∙ w.1 0 b.0 mark (omega (arith, f.1))) (f.2 x w.0)),
)
