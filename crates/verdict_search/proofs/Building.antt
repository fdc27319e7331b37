-- The loops that build the columns: a place put into those of some drives, the places of all sets; and the most drives
-- that a set lacks.
use mathlib.Core.Path.{◌≡◌, refl, ap, ◌∙◌, subst}
use mathlib.Core.Bool.{true, false, not}
use mathlib.Core.List.{List}
use Prim.Native.Nat.{ℕ, suc, ◌+◌, ◌*◌, ◌/◌, ◌%◌, ◌^◌, ◌≤◌, ◌<◌}
use native.Mathlib.Omega.{arith}
use native.Mathlib.Numerals.{add-one}
use lib.Dec.{eqb}
use lib.ListN.{length, get_or, set, length-set}
use lib.Seq.{get_or-set_same, get_or-set_other}
use borrow.Author.Tests.{eqb-true, eqb-false}
use Rattle.drive_sets.specs.Bools.Laws.{clash, by_test, false_of, and_intro, or_left, or_right}
use Rattle.drive_sets.specs.Limits.{max_sets}
use Rattle.drive_sets.specs.Lists.{elem}
use Rattle.drive_sets.specs.Lists.Places.{elem_get_or}
use Rattle.drive_sets.specs.Loops.Drives.{Taken, taken_bounds, taken_lt, taken_other}
use Rattle.drive_sets.specs.Masks.{has, single, union, minus, size}
use Rattle.drive_sets.specs.Masks.Laws.{has_none, has_union, has_minus}
use Rattle.drive_sets.specs.Masks.OneDrive.{single_has}
use Rattle.verdict_search.specs.Columns.{column_words, has_place, Added, LackingTo}

-- ---- a place put into the columns of some drives

-- a word with more in it, in its place
more_in : (l : List ℕ) (at i bits e : ℕ) → at < length l → has e (get_or l i 0) ≡ true → has e (get_or (set l at (union (get_or l at 0) bits)) i 0) ≡ true
more_in l at i bits e h p =
    by_test (eqb i at)
    (λ same. let q = eqb-true i at same in
    ap (λ (j : ℕ). has e (get_or (set l at (union (get_or l at 0) bits)) j 0)) q
    ∙ (ap (has e) (get_or-set_same l at (union (get_or l at 0) bits) 0 h)
    ∙ (has_union e (get_or l at 0) bits ∙ or_left (has e bits) (subst (λ (j : ℕ). has e (get_or l j 0) ≡ true) q p))))
    (λ other. ap (has e) (get_or-set_other l at i (union (get_or l at 0) bits) 0 (eqb-false i at other)) ∙ p)

pub record Putting (old new : List ℕ) (place drives rest : ℕ) : Type 0 where
  pub word : rest < 2 ^ 64
  pub same : length new ≡ length old
  pub kept : (i j : ℕ) → has_place old i j ≡ true → has_place new i j ≡ true
  pub put : (i : ℕ) → has (suc i) drives ≡ true → has (suc i) rest ≡ false → has_place new i place ≡ true

pub putting_start : (old : List ℕ) (place drives : ℕ) → drives < 2 ^ 64 → Putting old old place drives drives
putting_start old place drives lt = record { word = lt; same = refl; kept = λ i j h. h; put = λ i h e. absurd (clash h e) }

module _ {old new : List ℕ} {place drives rest d others : ℕ} (w : Putting old new place drives rest) (t : Taken rest (suc d) others) where
  pub putting_turn : column_words ≤ length old → place < max_sets → (bit : ℕ) → bit ≡ single (place % 64 + 1)
      → Putting old (set new (2 * d + place / 64) (union (get_or new (2 * d + place / 64) 0) bit)) place drives others
  unfolding has_place
  putting_turn room small bit is = record {
    word = taken_lt t 64 w.word;
    same = length-set new at (union (get_or new at 0) bit) ∙ w.same;
    kept = λ i j h. more_in new at (2 * i + j / 64) bit (suc (j % 64)) within (w.kept i j h);
    put = λ i h left.
        by_test (eqb i d)
        (λ e. ap (λ (x : ℕ). has (suc (place % 64)) (get_or (set new at (union (get_or new at 0) bit)) (2 * x + place / 64) 0)) (eqb-true i d e)
        ∙ (ap (has (suc (place % 64))) (get_or-set_same new at (union (get_or new at 0) bit) 0 within)
        ∙ (has_union (suc (place % 64)) (get_or new at 0) bit ∙ or_right (has (suc (place % 64)) (get_or new at 0)) bit_has)))
        (λ e. more_in new at (2 * i + place / 64) bit (suc (place % 64)) within
        (w.put i h (false_of (has (suc i) rest) (λ p. clash (still i p (eqb-false i d e)) left))));
  }
    where
      at : ℕ
      at = 2 * d + place / 64

      within : at < length new
      within = let b = taken_bounds t in omega (arith, b.1, w.same, room, small)

      bit_has : has (suc (place % 64)) bit ≡ true
      bit_has = ap (has (suc (place % 64))) (is ∙ ap single (add-one (place % 64))) ∙ single_has (suc (place % 64)) (omega arith) (omega arith)

      still : (i : ℕ) → has (suc i) rest ≡ true → (i ≡ d → ⊥) → has (suc i) others ≡ true
      still i h ne = taken_other t (suc i) h (λ e. ne (omega (arith, e)))

pub putting_end : {old new : List ℕ} {place drives rest : ℕ} → Putting old new place drives rest → rest ≡ 0 → Added old new place drives
putting_end w z = record { kept = w.kept; put = λ i h. w.put i h (ap (has (suc i)) z ∙ has_none (suc i)) }

-- ---- the places of all sets

pub lacking_turn : (table : List ℕ) (m place : ℕ) {mask : ℕ} {old new : List ℕ} → LackingTo place table old m → mask ≡ minus m (get_or table place 0) → Added old new place mask
    → LackingTo (place + 1) table new m
lacking_turn table m place {new = new} w is a i j h lt lacks =
    by_test (eqb j place)
    (λ e. let q = eqb-true j place e in
    ap (has_place new i) q
    ∙ a.put i (ap (has (suc i)) is ∙ has_minus (suc i) m (get_or table place 0) ∙ and_intro h (ap not (subst (λ (x : ℕ). has (suc i) (get_or table x 0) ≡ false) q lacks))))
    (λ e. a.kept i j (w i j h (let ne = eqb-false j place e in omega (arith, lt)) lacks))

-- ---- the most drives that a set lacks

pub record Most (table : List ℕ) (m most place : ℕ) : Type 0 where
  pub within : place ≤ length table
  pub seen : (j : ℕ) → j < place → size (minus m (get_or table j 0)) ≤ most

pub most_end : {table : List ℕ} {m most place : ℕ} → Most table m most place → length table ≤ place → (s : ℕ) → elem s table ≡ true → size (minus m s) ≤ most
most_end {table} {m} {most} w end s h =
    let at = elem_get_or s table h in
    subst (λ (x : ℕ). size (minus m x) ≤ most) at.2 (w.seen at.0 (omega (arith, at.1, end)))
