-- The rules of 28 as the code asks them: four sets as one, and what an unbroken state says of its round.
use mathlib.Core.Path.{◌≡◌, sym, ap, ◌∙◌}
use mathlib.Core.Bool.{Bool, false, not, ◌&&◌, ◌||◌}
use mathlib.Core.Logic.{⊎_elim}
use Prim.Native.Nat.{ℕ, ◌^◌, ◌≤◌, ◌<◌}
use native.Mathlib.Omega.{arith}
use borrow.Author.Tests.{not-false}
use Rattle.drive_sets.specs.Bools.Laws.{same_test, and_intro, and_left, and_right, or_right, or_cases, or_false_left, or_false_right}
use Rattle.drive_sets.specs.Masks.{has, union, subset}
use Rattle.drive_sets.specs.Masks.Laws.{has_union, union_lt, subset_has, has_subset, subset_trans, subset_union}
use Rattle.drive_sets.specs.Masks.Sizes.{size_le}
use Rattle.survivor_tables.specs.Tables.{is_frame, is_set}
use Rattle.drive_states.specs.declared.Exchange.{Exchange}
use Rattle.drive_sets.specs.Counts.{is_drive, is_round}
use Rattle.drive_sets.specs.Counts.Laws.{round_bounds}
use Rattle.drive_states.specs.State.{in_core, broken}

-- a union is inside where both parts are
union_inside : (a b c : ℕ) → a < 2 ^ 64 → b < 2 ^ 64 → subset (union a b) c ≡ (subset a c && subset b c)
union_inside a b c p q =
    same_test (subset (union a b) c) (subset a c && subset b c)
    (λ e. and_intro (subset_trans 64 a (union a b) c p (subset_union 64 a b p) e)
    (has_subset 64 b c q (λ d h. subset_has d (union a b) c e (has_union d a b ∙ or_right (has d a) h))))
    (λ e. has_subset 64 (union a b) c (union_lt 64 a b p q) (λ d h.
    ⊎_elim (subset_has d a c (and_left (subset a c) (subset b c) e)) (subset_has d b c (and_right (subset a c) (subset b c) e))
    (or_cases (has d a) (has d b) (sym (has_union d a b) ∙ h))))

pub four_inside : (a b c d m : ℕ) → a < 2 ^ 64 → b < 2 ^ 64 → c < 2 ^ 64 → d < 2 ^ 64
    → subset (union (union (union a b) c) d) m ≡ (subset a m && subset b m && subset c m && subset d m)
four_inside a b c d m p q r s =
    union_inside (union (union a b) c) d m (union_lt 64 (union a b) c (union_lt 64 a b p q) r) s
    ∙ ap (λ (t : Bool). t && subset d m)
    (union_inside (union a b) c m (union_lt 64 a b p q) r ∙ ap (λ (t : Bool). t && subset c m) (union_inside a b m p q))

-- a round of a state that keeps the rules is at most the core's size
pub unbroken_round : (x : Exchange) → broken x ≡ false → x.round.0 ≤ 64
unfolding broken
unbroken_round x h =
    let range = is_round x.core x.round.0 in
    let own = in_core x && not (has x.own.0 x.known && has x.own.0 x.start) in
    let sets = subset x.before x.core && subset x.heard x.core && subset x.known x.core && subset x.start x.core in
    let first = not (is_frame x.n) || not (is_set x.n x.core) || own || not (is_drive x.n x.own.0) in
    let inside = or_false_right first (not range) (or_false_left (first || not range) (not sets) h) in
    omega (arith, (round_bounds x.core x.round.0 (not-false range inside)).1, size_le x.core)
