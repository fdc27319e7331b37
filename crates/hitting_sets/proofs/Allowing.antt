-- The drives of a set that the sets before it do not forbid, by marks: for each drive of m those that its private sets
-- share go.
use mathlib.Core.Path.{◌≡◌, refl, sym, ap, ap₂, ◌∙◌, subst}
use mathlib.Core.Bool.{Bool, true, false, not, ◌&&◌, ◌||◌}
use mathlib.Core.Logic.{◌↔◌}
use mathlib.Core.List.{List, ◌∷◌}
use Prim.Native.Nat.{ℕ, ◌+◌, ◌-◌, ◌*◌, ◌/◌, ◌%◌, ◌^◌, ◌≤◌, ◌<◌}
use native.Mathlib.Nat.{sub-zero}
use native.Mathlib.Omega.{arith}
use lib.Bits.{and_zero_r}
use lib.Dec.{eqb}
use lib.ListN.{length, get_or, take, drop, length-take}
use lib.Seq.{get_or-take, get_or-drop}
use borrow.Author.Tests.{eqb-true, eq-eqb}
use Rattle.drive_sets.specs.Bools.Laws.{clash, same_test, true_of, and_intro, and_left, and_right}
use Rattle.drive_sets.specs.Lists.{elem}
use Rattle.drive_sets.specs.Lists.Laws.{elem_filter}
use Rattle.drive_sets.specs.Lists.Places.{get_or_elem, elem_get_or}
use Rattle.drive_sets.specs.Masks.{has, single, union, common, minus, meets, size, drives}
use Rattle.drive_sets.specs.Masks.Laws.{has_union, has_common, has_minus, has_bounds, has_ext, minus_lt, common_lt, meets_not, common_lt_right}
use Rattle.drive_sets.specs.Masks.OneDrive.{has_lone, shared_has}
use Rattle.drive_sets.specs.Masks.Sizes.{size_single}
use Rattle.drive_sets.specs.Loops.Drives.{Taken, taken_left, Walk, walk_start, walk_turn, walk_end}
use Rattle.hitting_sets.specs.LookAhead.{in_all, privates, forbidden}
use Rattle.hitting_sets.specs.LookAhead.Forbidden.{in_all_has, in_all_lacks}
use Rattle.hitting_sets.specs.Marks.{Marked, Columns, InMarked, Apart}

module _ (sets : List ℕ) (next m : ℕ) (words : ℕ) (columns once : List ℕ) (m_lt : m < 2 ^ 64) (inside : next < length sets) (few : words ≤ 16) (enough : length sets ≤ 64 * words)
    (by_drive : Columns columns sets) (marked : Marked words once sets (λ s. eqb (size (common s m)) 1)) (once_lt : (i : ℕ) → get_or once i 0 < 2 ^ 64) where
  abbrev seen : List ℕ
  seen = take (next - 0) sets

  seen_length : length seen ≡ next
  seen_length = omega (arith, length-take (next - 0) sets)

  -- the sets that are marked in no column of c share no drive with it
  pub apart_is : (c far : ℕ) → c < 2 ^ 64
      → ((b : ℕ) → has b far ≡ true → (has b (get_or once 0 0) ≡ true) × (b ≤ next) × ((x : ℕ) → has x c ≡ true → has b (get_or columns (16 * (x - 1)) 0) ≡ false))
      → Apart seen once far c
  apart_is c far c_lt f b h =
      let w = f b h in
      let bounds = has_bounds 64 b (get_or once 0 0) (once_lt 0) w.0 in (
        w.0,
        omega (arith, w.1, bounds.0, seen_length),
        λ x i.
            let xb = has_bounds 64 x c c_lt i in
            let k = 16 * (x - 1) in
            let same : 16 * (x - 1) + 0 ≡ 16 * (x - 1) = omega arith in
            let there : 64 * 0 + b - 1 ≡ b - 1 = omega arith in
            ap (has x) (get_or-take (next - 0) sets (b - 1) 0 (omega (arith, w.1, bounds.0)) ∙ ap (λ (p : ℕ). get_or sets p 0) (sym there))
            ∙ (sym ((by_drive x xb.0 xb.1).each 0 b (omega arith) bounds.0 bounds.1)
            ∙ (ap (has b) (get_or-drop k columns 0 0 ∙ ap (λ (p : ℕ). get_or columns p 0) same) ∙ w.2 x i)),
      )

  module _ (d : ℕ) (low : 1 ≤ d) (high : d ≤ 64) (i_m : has d m ≡ true) (column : List ℕ) (column_is : column ≡ drop (16 * (d - 1)) columns) where
    abbrev word : ℕ → ℕ
    word i = common (get_or once i 0) (get_or column i 0)

    private_test : (s : ℕ) → (eqb (size (common s m)) 1 && has d s) ≡ eqb (common s m) (single d)
    private_test s =
        same_test (eqb (size (common s m)) 1 && has d s) (eqb (common s m) (single d))
        (λ h. sym (has_lone d low high (common s m) (common_lt_right 64 s m m_lt) (eqb-true (size (common s m)) 1 (and_left (eqb (size (common s m)) 1) (has d s) h)))
        ∙ (has_common d s m ∙ and_intro (and_right (eqb (size (common s m)) 1) (has d s) h) i_m))
        (λ h. let e = eqb-true (common s m) (single d) h in
        and_intro (eq-eqb (size (common s m)) 1 (ap size e ∙ size_single d low high)) (shared_has d low high s m e).0)

    -- the marks in both are the private sets of d
    marks_private : (i b : ℕ) → 1 ≤ b → b ≤ 64 → 64 * i + b - 1 < next → has b (word i) ≡ eqb (common (get_or seen (64 * i + b - 1) 0) m) (single d)
    marks_private i b b_low b_high lt =
        has_common b (get_or once i 0) (get_or column i 0)
        ∙ (ap₂ (λ (x y : Bool). x && y) (marked.each i b (omega arith) b_low b_high) (ap (λ (l : List ℕ). has b (get_or l i 0)) column_is ∙ (by_drive d low high).each i b (omega arith) b_low b_high)
        ∙ (private_test (get_or sets (64 * i + b - 1) 0) ∙ ap (λ (s : ℕ). eqb (common s m) (single d)) (sym (get_or-take (next - 0) sets (64 * i + b - 1) 0 (omega arith)))))

    module _ (x : ℕ) (x_low : 1 ≤ x) (x_high : x ≤ 64) where
      in_marked : has x (in_all (privates seen m d)) ≡ true → (i : ℕ) → InMarked seen (64 * i) (word i) x
      unfolding privates
      in_marked h i b mark lt =
          let bounds = has_bounds 64 b (word i) (common_lt 64 (get_or once i 0) (get_or column i 0) (once_lt i)) mark in
          let s = get_or seen (64 * i + b - 1) 0 in
          in_all_has x s (privates seen m d) h
          (elem_filter (λ y. eqb (common y m) (single d)) s seen
          ∙ and_intro (get_or_elem seen (64 * i + b - 1) lt) (sym (marks_private i b bounds.0 bounds.1 (omega (arith, seen_length))) ∙ mark))

      marked_in : ((i : ℕ) → InMarked seen (64 * i) (word i) x) → has x (in_all (privates seen m d)) ≡ true
      unfolding privates
      marked_in f = true_of (has x (in_all (privates seen m d))) (λ h.
          let w = in_all_lacks x x_low x_high (privates seen m d) h in
          let both = sym (elem_filter (λ y. eqb (common y m) (single d)) w.0 seen) ∙ w.1 in
          let g = elem_get_or w.0 seen (and_left (elem w.0 seen) (eqb (common w.0 m) (single d)) both) in
          let i = g.0 / 64 in
          let b = g.0 % 64 + 1 in
          let there : 64 * (g.0 / 64) + (g.0 % 64 + 1) - 1 ≡ g.0 = omega arith in
          let set_is = ap (λ (p : ℕ). get_or seen p 0) there ∙ g.2 in
          let mark = marks_private i b (omega arith) (omega arith) (omega (arith, there, g.1, seen_length)) ∙ (ap (λ (y : ℕ). eqb (common y m) (single d)) set_is ∙ and_right (elem w.0 seen) (eqb (common w.0 m) (single d)) both) in
          clash (ap (has x) (sym set_is) ∙ f i b mark (omega (arith, there, g.1))) w.2)

    -- of the drives of c, what the marked sets share is what the private sets share
    pub shared_is : (c all : ℕ) → ((x : ℕ) → (has x all ≡ true) ↔ ((has x c ≡ true) × ((i : ℕ) → InMarked seen (64 * i) (word i) x)))
        → (x : ℕ) → 1 ≤ x → x ≤ 64 → has x c ≡ true → has x all ≡ has x (in_all (privates seen m d))
    shared_is c all each x x_low x_high h =
        same_test (has x all) (has x (in_all (privates seen m d)))
        (λ e. marked_in x x_low x_high ((each x).0 e).1)
        (λ e. (each x).1 (h, in_marked x x_low x_high e))

-- all the sets before `next`, as a part of the slice
pub seen_from : (sets : List ℕ) (next s m : ℕ) → minus s (forbidden (take (next - 0) sets) m (drives m)) ≡ minus s (forbidden (take next sets) m (drives m))
seen_from sets next s m = ap (λ (k : ℕ). minus s (forbidden (take k sets) m (drives m))) (sub-zero next)

pub apart_same : (sets once : List ℕ) {far far' c c' : ℕ} → far' ≡ far → c' ≡ c → Apart sets once far c → Apart sets once far' c'
apart_same sets once {far} {far'} {c} p q a = subst (Apart sets once far') (sym q) (subst (λ (x : ℕ). Apart sets once x c) (sym p) a)

-- ---- drive after drive of m

-- `rest` is what is left of m, c of the set s
pub record Allowing (seen : List ℕ) (s m rest c : ℕ) : Type 0 where
  pub walk : Walk (minus s (forbidden seen m (drives m))) (λ l. minus c (forbidden seen m l)) rest
  pub of_m : (x : ℕ) → has x rest ≡ true → has x m ≡ true
  pub part : (x : ℕ) → has x c ≡ true → has x s ≡ true
  pub word : c < 2 ^ 64

pub allowing_start : (seen : List ℕ) (s m : ℕ) → s < 2 ^ 64 → m < 2 ^ 64 → Allowing seen s m m s
allowing_start seen s m s_lt m_lt = record { walk = walk_start _ m m_lt; of_m = λ x h. h; part = λ x h. h; word = s_lt }

cut : (x l a n f : Bool) → (x ≡ true → (l ≡ a) × (n ≡ false)) → (x && not ((a && not n) || f)) ≡ ((x && not l) && not f)
cut false l a n f w = refl
cut true l a n f w =
    let e = w refl in
    ap (λ (y : Bool). not ((a && not y) || f)) e.1 ∙ (both a ∙ ap (λ (y : Bool). not y && not f) (sym e.0))
  where
    both : (a : Bool) → not ((a && true) || f) ≡ (not a && not f)
    both true = refl
    both false = refl

module _ {seen : List ℕ} {s m rest c : ℕ} (y : Allowing seen s m rest c) where
  -- one drive d of m less, where `all` is what its private sets share of c
  less : meets s m ≡ false → (d : ℕ) (l : List ℕ) (all : ℕ) → ((x : ℕ) → 1 ≤ x → x ≤ 64 → has x c ≡ true → has x all ≡ has x (in_all (privates seen m d)))
      → minus c (forbidden seen m (d ∷ l)) ≡ minus (minus c all) (forbidden seen m l)
  unfolding forbidden
  less missed d l all each =
      let a = in_all (privates seen m d) in
      let f = forbidden seen m l in
      has_ext 64 (minus c (union (minus a m) f)) (minus (minus c all) f) (minus_lt 64 c (union (minus a m) f) y.word) (minus_lt 64 (minus c all) f (minus_lt 64 c all y.word))
      (λ x low high.
      has_minus x c (union (minus a m) f)
      ∙ (ap (λ (b : Bool). has x c && not b) (has_union x (minus a m) f ∙ ap (λ (b : Bool). b || has x f) (has_minus x a m))
      ∙ (cut (has x c) (has x all) (has x a) (has x m) (has x f) (λ h. (each x low high h, meets_not x s m missed (y.part x h)))
      ∙ sym (has_minus x (minus c all) f ∙ ap (λ (b : Bool). b && not (has x f)) (has_minus x c all)))))

  pub allowing_turn : meets s m ≡ false → {d others : ℕ} → Taken rest d others → (all c' : ℕ)
      → ((x : ℕ) → 1 ≤ x → x ≤ 64 → has x c ≡ true → has x all ≡ has x (in_all (privates seen m d))) → c' ≡ minus c all → Allowing seen s m others c'
  allowing_turn missed {d} {others} t all c' each e = record {
    walk = walk_turn y.walk t (λ l. minus c' (forbidden seen m l)) (less missed d (drives others) all each ∙ ap (λ (k : ℕ). minus k (forbidden seen m (drives others))) (sym e));
    of_m = λ x h. y.of_m x (taken_left t x h);
    part = λ x h. y.part x (and_left (has x c) (not (has x all)) (sym (has_minus x c all) ∙ (ap (has x) (sym e) ∙ h)));
    word = subst (λ (k : ℕ). k < 2 ^ 64) (sym e) (minus_lt 64 c all y.word);
  }

  -- nothing of c goes
  pub all_none : (all c' : ℕ) → all ≡ 0 → c' ≡ c → c' ≡ minus c all
  unfolding minus
  all_none all c' z e = e ∙ sym (ap (minus c) z ∙ (ap (λ (k : ℕ). c - k) (and_zero_r c) ∙ sub-zero c))

  pub allowing_end : rest ≡ 0 → c ≡ minus s (forbidden seen m (drives m))
  unfolding forbidden minus
  allowing_end z = sym (sub-zero c) ∙ (ap (λ (k : ℕ). c - k) (sym (and_zero_r c)) ∙ walk_end y.walk z)
