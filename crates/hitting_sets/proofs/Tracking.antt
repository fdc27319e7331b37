-- The marks of the sets that m misses, and of those that it meets in one drive alone: word by word, as a drive is
-- added.
use mathlib.Core.Path.{◌≡◌, refl, sym, ap, ap₂, ◌∙◌, subst}
use mathlib.Core.Bool.{Bool, true, false, not, ◌&&◌, ◌||◌}
use mathlib.Core.Logic.{⊎_elim}
use mathlib.Core.List.{List}
use Prim.Native.Nat.{ℕ, suc, ◌+◌, ◌-◌, ◌*◌, ◌^◌, ◌≤◌, ◌<◌}
use native.Mathlib.Nat.{le_refl}
use native.Mathlib.Omega.{arith}
use lib.Bits.{and_zero_r}
use lib.Dec.{eqb}
use lib.ListN.{length, get_or, drop, set, replicate, length-set, length-drop, get_or-replicate}
use lib.Seq.{get_or-set_same, get_or-set_other}
use borrow.Author.Tests.{eqb-true, eqb-false, eq-eqb}
use Rattle.drive_sets.specs.Bools.Laws.{clash, by_test, same_test, and_intro, and_left, and_right, or_cases, or_left, or_right}
use Rattle.drive_sets.specs.Masks.{has, single, full, union, common, minus, meets, size}
use Rattle.drive_sets.specs.Masks.Laws.{has_none, has_union, has_common, has_minus, has_ext, has_meets, meets_has, meets_sym, common_lt_right, minus_lt, full_has}
use Rattle.drive_sets.specs.Masks.OneDrive.{insert_has, insert_keeps, insert_cases, insert_lt, remove_keeps, remove_has}
use Rattle.drive_sets.specs.Masks.Sizes.{size_none, none_size, size_remove}
use Rattle.hitting_sets.specs.Marks.{Columns, Tracked}

-- ---- the columns

pub columns_room : (columns sets : List ℕ) → Columns columns sets → 1024 ≤ length columns
columns_room columns sets k = let room = (k 64 (omega arith) (omega arith)).room in omega (arith, room, length-drop 1008 columns)

-- ---- no drive: it misses every set, and shares a drive with none

pub tracked_start : (n : ℕ) (columns sets : List ℕ) → n ≤ 16 → Columns columns sets → Tracked n columns sets 0 (replicate 16 0xffff_ffff_ffff_ffff) (replicate 16 0)
unfolding meets common full
tracked_start n columns sets few k = record {
  few = few;
  by_drive = k;
  misses = record {
    room = few;
    each = λ i b i_lt low high.
        ap (has b) (get_or-replicate 16 i 0xffff_ffff_ffff_ffff 0 (omega arith))
        ∙ (full_has b 64 (le_refl 64) low high ∙ sym (ap (λ (x : ℕ). not (not (eqb x 0))) (and_zero_r (get_or sets (64 * i + b - 1) 0))));
  };
  shares_one = record {
    room = few;
    each = λ i b i_lt low high.
        ap (has b) (get_or-replicate 16 i 0 0 (omega arith))
        ∙ (has_none b ∙ sym (ap (λ (x : ℕ). eqb (size x) 1) (and_zero_r (get_or sets (64 * i + b - 1) 0)) ∙ ap (λ (x : ℕ). eqb x 1) size_none));
  };
}

-- ---- words made one after the other

pub record Made (f : ℕ → ℕ) (old out : List ℕ) (i : ℕ) : Type 0 where
  pub same : length out ≡ length old
  pub each : (j : ℕ) → j < i → get_or out j 0 ≡ f j

pub made_turn : (f : ℕ → ℕ) {old out : List ℕ} {i : ℕ} → Made f old out i → i < length old → (x : ℕ) → x ≡ f i → Made f old (set out i x) (i + 1)
made_turn f {old} {out} {i} m lt x e = record {
  same = length-set out i x ∙ m.same;
  each = λ j h.
      by_test (eqb j i)
      (λ q. ap (λ (k : ℕ). get_or (set out i x) k 0) (eqb-true j i q) ∙ (get_or-set_same out i x 0 (omega (arith, m.same)) ∙ (e ∙ ap f (sym (eqb-true j i q)))))
      (λ q. get_or-set_other out i j x 0 (eqb-false j i q) ∙ m.each j (omega (arith, eqb-false j i q)));
}

-- ---- a drive added to m

module _ (m d s : ℕ) (word : m < 2 ^ 64) (low : 1 ≤ d) (high : d ≤ 64) (new : has d m ≡ false) where
  abbrev t : ℕ
  t = union m (single d)

  t_lt : t < 2 ^ 64
  t_lt = insert_lt d low high m word

  meets_more : meets s t ≡ (meets s m || has d s)
  meets_more =
      same_test (meets s t) (meets s m || has d s)
      (λ h. let w = meets_has 64 t s t_lt (meets_sym t s ∙ h) in
      ⊎_elim
      (λ e. or_left (has d s) (has_meets w.0 s m w.2 e))
      (λ e. or_right (meets s m) (ap (λ (x : ℕ). has x s) (sym e) ∙ w.2))
      (insert_cases d low high w.0 m w.1))
      (λ h. ⊎_elim
      (λ e. let w = meets_has 64 m s word (meets_sym m s ∙ e) in has_meets w.0 s t w.2 (insert_keeps d low high w.0 m w.1))
      (λ e. has_meets d s t e (insert_has d low high m))
      (or_cases (meets s m) (has d s) h))

  neither : (a b : Bool) → (not a && not b) ≡ not (a || b)
  neither true b = refl
  neither false b = refl

  pub misses_more : (not (meets s m) && not (has d s)) ≡ not (meets s t)
  misses_more = neither (meets s m) (has d s) ∙ ap not (sym meets_more)

  both : (x a b : ℕ) → has x (common a b) ≡ true → (has x a ≡ true) × (has x b ≡ true)
  both x a b h = let w = sym (has_common x a b) ∙ h in (and_left (has x a) (has x b) w, and_right (has x a) (has x b) w)

  same_shared : has d s ≡ false → common s t ≡ common s m
  same_shared e =
      has_ext 64 (common s t) (common s m) (common_lt_right 64 s t t_lt) (common_lt_right 64 s m word) (λ x p q.
      same_test (has x (common s t)) (has x (common s m))
      (λ h. let w = both x s t h in
      has_common x s m ∙ and_intro w.0 (⊎_elim (λ i. i) (λ i. absurd (clash (ap (λ (z : ℕ). has z s) (sym i) ∙ w.0) e)) (insert_cases d low high x m w.1)))
      (λ h. let w = both x s m h in has_common x s t ∙ and_intro w.0 (insert_keeps d low high x m w.1)))

  others_shared : minus (common s t) (single d) ≡ common s m
  others_shared =
      has_ext 64 (minus (common s t) (single d)) (common s m) (minus_lt 64 (common s t) (single d) (common_lt_right 64 s t t_lt)) (common_lt_right 64 s m word) (λ x p q.
      same_test (has x (minus (common s t) (single d))) (has x (common s m))
      (λ h. let r = remove_has d low high x (common s t) h in
      let w = both x s t r.0 in
      has_common x s m ∙ and_intro w.0 (⊎_elim (λ i. i) (λ i. absurd (r.1 i)) (insert_cases d low high x m w.1)))
      (λ h. let w = both x s m h in
      remove_keeps d low high x (common s t) (has_common x s t ∙ and_intro w.0 (insert_keeps d low high x m w.1)) (λ i. clash (ap (λ (z : ℕ). has z m) (sym i) ∙ w.1) new)))

  missed_none : not (meets s m) ≡ eqb (common s m) 0
  unfolding meets common
  missed_none = twice (eqb (common s m) 0)
    where
      twice : (b : Bool) → not (not b) ≡ b
      twice true = refl
      twice false = refl

  only_second : (a b : Bool) → ((a && false) || (b && true)) ≡ b
  only_second true true = refl
  only_second true false = refl
  only_second false true = refl
  only_second false false = refl

  pub once_more : ((eqb (size (common s m)) 1 && not (has d s)) || (not (meets s m) && has d s)) ≡ eqb (size (common s t)) 1
  once_more =
      let a = eqb (size (common s m)) 1 in
      let b = not (meets s m) in
      by_test (has d s)
      (λ h. let one_more : suc (size (common s m)) ≡ size (common s t) =
      ap (λ (x : ℕ). suc (size x)) (sym others_shared) ∙ size_remove d (common s t) low high (has_common d s t ∙ and_intro h (insert_has d low high m)) in
      ap (λ (x : Bool). (a && not x) || (b && x)) h
      ∙ (only_second a b
      ∙ (missed_none
      ∙ same_test (eqb (common s m) 0) (eqb (size (common s t)) 1)
      (λ q. let none = ap size (eqb-true (common s m) 0 q) ∙ size_none in eq-eqb (size (common s t)) 1 (omega (arith, one_more, none)))
      (λ q. let one = eqb-true (size (common s t)) 1 q in eq-eqb (common s m) 0 (none_size (common s m) (common_lt_right 64 s m word) (omega (arith, one_more, one)))))))
      (λ h. ap (λ (x : Bool). (a && not x) || (b && x)) h
      ∙ (only_first a b ∙ ap (λ (x : ℕ). eqb (size x) 1) (sym (same_shared h))))
    where
      only_first : (a b : Bool) → ((a && true) || (b && false)) ≡ a
      only_first true true = refl
      only_first true false = refl
      only_first false true = refl
      only_first false false = refl

pub tracked_more : {n : ℕ} {columns sets : List ℕ} {m : ℕ} {missed once : List ℕ} → Tracked n columns sets m missed once
    → (d : ℕ) → 1 ≤ d → d ≤ 64 → m < 2 ^ 64 → has d m ≡ false → (column : List ℕ) → column ≡ drop (16 * (d - 1)) columns
    → (left alone : List ℕ) → n ≤ length left → n ≤ length alone
    → ((i : ℕ) → i < n → get_or left i 0 ≡ minus (get_or missed i 0) (get_or column i 0))
    → ((i : ℕ) → i < n → get_or alone i 0 ≡ union (minus (get_or once i 0) (get_or column i 0)) (common (get_or missed i 0) (get_or column i 0)))
    → (t : ℕ) → t ≡ union m (single d) → Tracked n columns sets t left alone
tracked_more {n} {columns} {sets} {m} {missed} {once} k d low high word new column e left alone left_room alone_room left_is alone_is t t_is =
    subst (λ (x : ℕ). Tracked n columns sets x left alone) (sym t_is) (record {
      few = k.few;
      by_drive = k.by_drive;
      misses = record {
        room = left_room;
        each = λ i b i_lt b_low b_high.
            ap (has b) (left_is i i_lt)
            ∙ (has_minus b (get_or missed i 0) (get_or column i 0)
            ∙ (ap₂ (λ (x y : Bool). x && not y) (k.misses.each i b i_lt b_low b_high) (held i b i_lt b_low b_high)
            ∙ misses_more m d (get_or sets (64 * i + b - 1) 0) word low high new));
      };
      shares_one = record {
        room = alone_room;
        each = λ i b i_lt b_low b_high.
            let s = get_or sets (64 * i + b - 1) 0 in
            let here = get_or column i 0 in
            ap (has b) (alone_is i i_lt)
            ∙ (has_union b (minus (get_or once i 0) here) (common (get_or missed i 0) here)
            ∙ (ap₂ (λ (x y : Bool). x || y) (has_minus b (get_or once i 0) here) (has_common b (get_or missed i 0) here)
            ∙ (ap₂ (λ (x y : Bool). (x && not (has b here)) || (y && has b here)) (k.shares_one.each i b i_lt b_low b_high) (k.misses.each i b i_lt b_low b_high)
            ∙ (ap (λ (x : Bool). (eqb (size (common s m)) 1 && not x) || (not (meets s m) && x)) (held i b i_lt b_low b_high)
            ∙ once_more m d s word low high new))));
      };
    })
  where
    held : (i b : ℕ) → i < n → 1 ≤ b → b ≤ 64 → has b (get_or column i 0) ≡ has d (get_or sets (64 * i + b - 1) 0)
    held i b i_lt b_low b_high = ap (λ (l : List ℕ). has b (get_or l i 0)) e ∙ (k.by_drive d low high).each i b (omega (arith, k.few)) b_low b_high
