-- The drives that marked sets share, word by word and set by set: what the sets still to come leave of those that are
-- left is the whole.
use mathlib.Core.Path.{◌≡◌, refl, sym, ap, ◌∙◌, subst}
use mathlib.Core.Bool.{true}
use mathlib.Core.Logic.{◌↔◌}
use mathlib.Core.List.{List}
use Prim.Native.Nat.{ℕ, zero, suc, ◌+◌, ◌-◌, ◌*◌, ◌^◌, ◌≤◌, ◌<◌}
use native.Mathlib.Omega.{arith}
use lib.Dec.{eqb}
use lib.ListN.{length, get_or}
use borrow.Author.Tests.{eqb-true, eqb-false}
use Rattle.drive_sets.specs.Bools.Laws.{clash, by_test, and_intro, and_left, and_right}
use Rattle.drive_sets.specs.Masks.{has, common}
use Rattle.drive_sets.specs.Masks.Laws.{has_none, has_common}
use Rattle.drive_sets.specs.Masks.Sizes.{lowest_least}
use Rattle.drive_sets.specs.Loops.Drives.{Taken, taken_has, taken_bounds, taken_lt, taken_left, taken_other}
use Rattle.hitting_sets.specs.Marks.{InMarked}

-- ---- one word

pub record Cutting (sets : List ℕ) (base word c rest all : ℕ) : Type 0 where
  pub left : rest < 2 ^ 64
  pub each : (x : ℕ) → ((has x all ≡ true) × InMarked sets base rest x) ↔ ((has x c ≡ true) × InMarked sets base word x)

pub cutting_start : (sets : List ℕ) (base word c : ℕ) → word < 2 ^ 64 → Cutting sets base word c word c
cutting_start sets base word c h = record { left = h; each = λ x. (λ w. w, λ w. w) }

module _ {sets : List ℕ} {base word c rest all : ℕ} (y : Cutting sets base word c rest all) where
  -- `at` is the place of the lowest mark
  module _ {e others : ℕ} (t : Taken rest e others) (at : ℕ) (at_is : at ≡ base + (e - 1)) where
    pub cutting_turn : at < length sets → Cutting sets base word c others (common all (get_or sets at 0))
    cutting_turn lt = record {
      left = taken_lt t 64 y.left;
      each = λ x. (λ w. (y.each x).0 (back x w), λ w. on x ((y.each x).1 w));
    }
      where
        here : base + e - 1 ≡ at
        here = omega (arith, at_is, (taken_bounds t).0)

        back : (x : ℕ) → (has x (common all (get_or sets at 0)) ≡ true) × InMarked sets base others x → (has x all ≡ true) × InMarked sets base rest x
        back x w =
            let both = sym (has_common x all (get_or sets at 0)) ∙ w.0 in (
              and_left (has x all) (has x (get_or sets at 0)) both,
              λ k h inside.
                  by_test (eqb k e)
                  (λ q. ap (λ (z : ℕ). has x (get_or sets z 0)) (ap (λ (z : ℕ). base + z - 1) (eqb-true k e q) ∙ here) ∙ and_right (has x all) (has x (get_or sets at 0)) both)
                  (λ q. w.1 k (taken_other t k h (eqb-false k e q)) inside),
            )

        on : (x : ℕ) → (has x all ≡ true) × InMarked sets base rest x → (has x (common all (get_or sets at 0)) ≡ true) × InMarked sets base others x
        on x w = (
          has_common x all (get_or sets at 0)
              ∙ and_intro w.0 (ap (λ (z : ℕ). has x (get_or sets z 0)) (sym here) ∙ w.1 e (taken_has t) (omega (arith, here))),
          λ k h inside. w.1 k (taken_left t k h) inside,
        )

  cutting_done : ((x : ℕ) → has x all ≡ true → InMarked sets base rest x) → (x : ℕ) → (has x all ≡ true) ↔ ((has x c ≡ true) × InMarked sets base word x)
  cutting_done none x = (λ h. (y.each x).0 (h, none x h), λ w. ((y.each x).1 w).0)

  -- the lowest mark is behind the last set, or there is none, or no drive is left
  pub cutting_past : {e others : ℕ} → Taken rest e others → (at : ℕ) → at ≡ base + (e - 1) → length sets ≤ at
      → (x : ℕ) → (has x all ≡ true) ↔ ((has x c ≡ true) × InMarked sets base word x)
  cutting_past {e} t at at_is le = cutting_done (λ x h k i inside.
      let low : e ≤ k = ap_least k i in
      absurd (omega (arith, low, at_is, (taken_bounds t).0)))
    where
      ap_least : (k : ℕ) → has k rest ≡ true → e ≤ k
      ap_least k i = omega (arith, lowest_least k rest y.left i, t.first)

  pub cutting_end : rest ≡ 0 → (x : ℕ) → (has x all ≡ true) ↔ ((has x c ≡ true) × InMarked sets base word x)
  cutting_end z = cutting_done (λ x h k i inside. absurd (clash i (ap (has k) z ∙ has_none k)))

  pub cutting_none : all ≡ 0 → (x : ℕ) → (has x all ≡ true) ↔ ((has x c ≡ true) × InMarked sets base word x)
  cutting_none z = cutting_done (λ x h. absurd (clash h (ap (has x) z ∙ has_none x)))

-- ---- word after word

has_low : (d m : ℕ) → has d m ≡ true → 1 ≤ d
unfolding has
has_low zero m e = absurd (clash e refl)
has_low (suc d) m e = omega arith

module _ (sets : List ℕ) (word : ℕ → ℕ) (c : ℕ) where
  pub record CuttingAll (i all : ℕ) : Type 0 where
    pub each_word : (x : ℕ) → ((has x all ≡ true) × ((j : ℕ) → i ≤ j → InMarked sets (64 * j) (word j) x)) ↔ ((has x c ≡ true) × ((j : ℕ) → InMarked sets (64 * j) (word j) x))

  pub all_start : CuttingAll 0 c
  all_start = record { each_word = λ x. (λ w. (w.0, λ j. w.1 j (omega arith)), λ w. (w.0, λ j h. w.1 j)) }

  module _ {i all : ℕ} (y : CuttingAll i all) where
    pub all_turn : (all' : ℕ) → ((x : ℕ) → (has x all' ≡ true) ↔ ((has x all ≡ true) × InMarked sets (64 * i) (word i) x)) → CuttingAll (i + 1) all'
    all_turn all' cut = record {
      each_word = λ x. (
        (λ w. let v = (cut x).0 w.0 in
            (y.each_word x).0 (
              v.0,
              λ j h.
                  by_test (eqb i j)
                  (λ q. subst (λ (k : ℕ). InMarked sets (64 * k) (word k) x) (eqb-true i j q) v.1)
                  (λ q. w.1 j (omega (arith, eqb-false i j q))),
            )),
        λ w. let v = (y.each_word x).1 w in ((cut x).1 (v.0, v.1 i (omega arith)), λ j h. v.1 j (omega arith)),
      );
    }

    all_done : ((x : ℕ) → has x all ≡ true → (j : ℕ) → i ≤ j → InMarked sets (64 * j) (word j) x) → (x : ℕ) → (has x all ≡ true) ↔ ((has x c ≡ true) × ((j : ℕ) → InMarked sets (64 * j) (word j) x))
    all_done none x = (λ h. (y.each_word x).0 (h, none x h), λ w. ((y.each_word x).1 w).0)

    pub all_end : length sets ≤ 64 * i → (x : ℕ) → (has x all ≡ true) ↔ ((has x c ≡ true) × ((j : ℕ) → InMarked sets (64 * j) (word j) x))
    all_end le = all_done (λ x h j from k m inside. absurd (omega (arith, has_low k (word j) m)))

    pub all_none : all ≡ 0 → (x : ℕ) → (has x all ≡ true) ↔ ((has x c ≡ true) × ((j : ℕ) → InMarked sets (64 * j) (word j) x))
    all_none z = all_done (λ x h. absurd (clash h (ap (has x) z ∙ has_none x)))
