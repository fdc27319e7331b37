-- Sets marked in the columns of their drives, one after the other: a set's mark is put into one column after the other.
use mathlib.Core.Path.{◌≡◌, refl, sym, ap, ap₂, ◌∙◌}
use mathlib.Core.Bool.{Bool, true, false, ◌&&◌, ◌||◌, or_self, and-true}
use mathlib.Core.List.{List, []}
use Prim.Native.Nat.{ℕ, ◌+◌, ◌-◌, ◌*◌, ◌/◌, ◌%◌, ◌^◌, ◌≤◌, ◌<◌, min}
use native.Mathlib.Omega.{arith}
use lib.Dec.{eqb, ltb, leb}
use lib.ListN.{length, get_or, take, set, replicate, length-set, length-take, length-drop, get_or-replicate, get_or-eq_default}
use lib.Seq.{get_or-set_same, get_or-set_other, get_or-take, get_or-drop, take_all}
use borrow.Author.Tests.{eqb-true, eqb-false, eq-eqb, ltb-true, ltb-false, leb-true, leb-false}
use Rattle.drive_sets.specs.Bools.Laws.{by_test, same_test, false_of, and_left, and_right, and_fails_right, or_false}
use Rattle.drive_sets.specs.Masks.{has, single, union}
use Rattle.drive_sets.specs.Masks.Laws.{has_none, has_union}
use Rattle.drive_sets.specs.Masks.OneDrive.{has_one, single_has}
use Rattle.drive_sets.specs.Loops.Drives.{Taken, taken_has, taken_bounds, taken_lt, taken_left, taken_other}
use Rattle.hitting_sets.specs.Marks.{Columns}

-- ---- one set: what is still to be marked, with what is marked, is the whole

pub record Marking (old columns : List ℕ) (s i bit rest : ℕ) : Type 0 where
  pub word : rest < 2 ^ 64
  pub same : length columns ≡ length old
  pub each : (d j b : ℕ) → 1 ≤ d → d ≤ 64 → j < 16
      → (has b (get_or columns (16 * (d - 1) + j) 0) || (has d rest && (eqb j i && has b bit))) ≡ (has b (get_or old (16 * (d - 1) + j) 0) || (has d s && (eqb j i && has b bit)))

pub marking_start : (columns : List ℕ) (s i bit : ℕ) → s < 2 ^ 64 → Marking columns columns s i bit s
marking_start columns s i bit h = record { word = h; same = refl; each = λ d j b low high k. refl }

one_more : (x e o q : Bool) → ((x || (e && q)) || (o && q)) ≡ (x || ((e || o) && q))
one_more true e o q = refl
one_more false true true q = or_self q
one_more false true false q = or_false q
one_more false false o q = refl

module _ {old columns : List ℕ} {s i bit rest : ℕ} (y : Marking old columns s i bit rest) where
  module _ (room : 1024 ≤ length columns) (i_lt : i < 16) {e others : ℕ} (t : Taken rest e others) (k : ℕ) (at : k ≡ 16 * (e - 1) + i) where
    abbrev columns' : List ℕ
    columns' = set columns k (union (get_or columns k 0) bit)

    left : (d : ℕ) → has d rest ≡ (eqb d e || has d others)
    left d =
        by_test (eqb d e)
        (λ q. ap (λ (x : ℕ). has x rest) (eqb-true d e q) ∙ (taken_has t ∙ sym (ap (λ (x : Bool). x || has d others) q)))
        (λ q. same_test (has d rest) (has d others)
        (λ h. taken_other t d h (eqb-false d e q))
        (taken_left t d)
        ∙ sym (ap (λ (x : Bool). x || has d others) q))

    stored : (d j b : ℕ) → 1 ≤ d → j < 16
        → has b (get_or columns' (16 * (d - 1) + j) 0) ≡ (has b (get_or columns (16 * (d - 1) + j) 0) || (eqb d e && (eqb j i && has b bit)))
    stored d j b low j_lt =
        let p = 16 * (d - 1) + j in
        let x = get_or columns p 0 in
        let v = union (get_or columns k 0) bit in
        let bounds = taken_bounds t in
        by_test (eqb p k)
        (λ q. let same : 16 * (d - 1) + j ≡ k = eqb-true p k q in
        let de : d ≡ e = omega (arith, same, at, bounds.0) in
        let ji : j ≡ i = omega (arith, same, at, bounds.0) in
        let in_range : k < length columns = omega (arith, bounds.0, bounds.1) in
        ap (λ (z : ℕ). has b (get_or columns' z 0)) same
        ∙ (ap (has b) (get_or-set_same columns k v 0 in_range)
        ∙ (has_union b (get_or columns k 0) bit
        ∙ (ap (λ (z : ℕ). has b (get_or columns z 0) || has b bit) (sym same)
        ∙ sym (ap₂ (λ (u w : Bool). has b x || (u && (w && has b bit))) (eq-eqb d e de) (eq-eqb j i ji))))))
        (λ q. ap (has b) (get_or-set_other columns k p v 0 (eqb-false p k q))
        ∙ (sym (or_false (has b x))
        ∙ ap (λ (z : Bool). has b x || z) (sym (false_of (eqb d e && (eqb j i && has b bit)) (λ h.
        let de : d ≡ e = eqb-true d e (and_left (eqb d e) (eqb j i && has b bit) h) in
        let ji : j ≡ i = eqb-true j i (and_left (eqb j i) (has b bit) (and_right (eqb d e) (eqb j i && has b bit) h)) in
        eqb-false p k q (omega (arith, de, ji, at)))))))

    pub marking_turn : Marking old columns' s i bit others
    marking_turn = record {
      word = taken_lt t 64 y.word;
      same = length-set columns k (union (get_or columns k 0) bit) ∙ y.same;
      each = λ d j b low high h.
          ap (λ (x : Bool). x || (has d others && (eqb j i && has b bit))) (stored d j b low h)
          ∙ (one_more (has b (get_or columns (16 * (d - 1) + j) 0)) (eqb d e) (has d others) (eqb j i && has b bit)
          ∙ (ap (λ (x : Bool). has b (get_or columns (16 * (d - 1) + j) 0) || (x && (eqb j i && has b bit))) (sym (left d)) ∙ y.each d j b low high h));
    }

  pub marking_end : rest ≡ 0 → (d j b : ℕ) → 1 ≤ d → d ≤ 64 → j < 16
      → has b (get_or columns (16 * (d - 1) + j) 0) ≡ (has b (get_or old (16 * (d - 1) + j) 0) || (has d s && (eqb j i && has b bit)))
  marking_end z d j b low high h =
      sym (or_false (has b (get_or columns (16 * (d - 1) + j) 0)))
      ∙ (ap (λ (x : Bool). has b (get_or columns (16 * (d - 1) + j) 0) || (x && (eqb j i && has b bit))) (sym (ap (has d) z ∙ has_none d)) ∙ y.each d j b low high h)

-- ---- set after set

pub record Filling (sets columns : List ℕ) (at : ℕ) : Type 0 where
  pub few : at ≤ 1024
  pub room : length columns ≡ 1024
  pub each : (d i b : ℕ) → 1 ≤ d → d ≤ 64 → i < 16 → 1 ≤ b → b ≤ 64 → has b (get_or columns (16 * (d - 1) + i) 0) ≡ has d (get_or (take at sets) (64 * i + b - 1) 0)

pub filling_start : (sets columns : List ℕ) → columns ≡ replicate 1024 0 → Filling sets columns 0
filling_start sets columns e = record {
  few = omega arith;
  room = ap length e;
  each = λ d i b low high i_lt b_low b_high.
      ap (λ (l : List ℕ). has b (get_or l (16 * (d - 1) + i) 0)) e
      ∙ (ap (has b) (get_or-replicate 1024 (16 * (d - 1) + i) 0 0 (omega arith))
      ∙ (has_none b ∙ sym (ap (has d) (get_or-eq_default [] 0 {n = 64 * i + b - 1} (omega arith)) ∙ has_none d)));
}

module _ (sets : List ℕ) (at : ℕ) where
  past : (n q : ℕ) → n ≤ q → get_or (take n sets) q 0 ≡ 0
  past n q h = get_or-eq_default (take n sets) 0 {n = q} (omega (arith, length-take n sets))

  here : (d i b : ℕ) → 1 ≤ b → b ≤ 64 → 64 * i + b - 1 ≡ at
      → (has d (get_or (take at sets) (64 * i + b - 1) 0) || (has d (get_or sets at 0) && (eqb i (at / 64) && has b (single (at % 64 + 1))))) ≡ has d (get_or (take (at + 1) sets) (64 * i + b - 1) 0)
  here d i b low high e =
      let q = 64 * i + b - 1 in
      let u = has d (get_or sets at 0) in
      let word : i ≡ at / 64 = omega (arith, e, low, high) in
      let drive : b ≡ at % 64 + 1 = omega (arith, e, low, high) in
      ap (λ (x : Bool). x || (u && (eqb i (at / 64) && has b (single (at % 64 + 1))))) (ap (has d) (past at q (omega (arith, e))) ∙ has_none d)
      ∙ (ap₂ (λ (x y : Bool). u && (x && y)) (eq-eqb i (at / 64) word) (ap (λ (x : ℕ). has x (single (at % 64 + 1))) drive ∙ single_has (at % 64 + 1) (omega arith) (omega arith))
      ∙ (and-true u ∙ sym (ap (has d) (ap (λ (x : ℕ). get_or (take (at + 1) sets) x 0) e ∙ get_or-take (at + 1) sets at 0 (omega arith)))))

  elsewhere : (d i b : ℕ) → 1 ≤ b → b ≤ 64 → (64 * i + b - 1 ≡ at → ⊥)
      → (has d (get_or (take at sets) (64 * i + b - 1) 0) || (has d (get_or sets at 0) && (eqb i (at / 64) && has b (single (at % 64 + 1))))) ≡ has d (get_or (take (at + 1) sets) (64 * i + b - 1) 0)
  elsewhere d i b low high ne =
      let q = 64 * i + b - 1 in
      let bit = single (at % 64 + 1) in
      ap (λ (x : Bool). has d (get_or (take at sets) q 0) || x)
      (and_fails_right (has d (get_or sets at 0)) (false_of (eqb i (at / 64) && has b bit) (λ h.
      let word : i ≡ at / 64 = eqb-true i (at / 64) (and_left (eqb i (at / 64)) (has b bit) h) in
      let drive : b ≡ at % 64 + 1 = has_one (at % 64 + 1) (omega arith) (omega arith) b (and_right (eqb i (at / 64)) (has b bit) h) in
      ne (omega (arith, word, drive)))))
      ∙ (or_false (has d (get_or (take at sets) q 0)) ∙ ap (has d) (by_test (ltb q at)
      (λ t. let lt = ltb-true q at t in get_or-take at sets q 0 lt ∙ sym (get_or-take (at + 1) sets q 0 (omega (arith, lt))))
      (λ t. let le = ltb-false q at t in past at q le ∙ sym (past (at + 1) q (omega (arith, le, ne))))))

module _ {sets columns : List ℕ} {at : ℕ} (f : Filling sets columns at) where
  pub filling_turn : at < 1024 → (columns' : List ℕ) (bit : ℕ) → bit ≡ single (at % 64 + 1) → length columns' ≡ length columns
      → ((d j b : ℕ) → 1 ≤ d → d ≤ 64 → j < 16
      → has b (get_or columns' (16 * (d - 1) + j) 0) ≡ (has b (get_or columns (16 * (d - 1) + j) 0) || (has d (get_or sets at 0) && (eqb j (at / 64) && has b bit))))
      → Filling sets columns' (at + 1)
  filling_turn lt columns' bit e same more = record {
    few = omega arith;
    room = same ∙ f.room;
    each = λ d i b low high i_lt b_low b_high.
        more d i b low high i_lt
        ∙ (ap₂ (λ (x : Bool) (y : ℕ). x || (has d (get_or sets at 0) && (eqb i (at / 64) && has b y))) (f.each d i b low high i_lt b_low b_high) e
        ∙ by_test (eqb (64 * i + b - 1) at)
        (λ q. here sets at d i b b_low b_high (eqb-true (64 * i + b - 1) at q))
        (λ q. elsewhere sets at d i b b_low b_high (eqb-false (64 * i + b - 1) at q)));
  }

  -- all sets, or as many as have places
  filling_end : ((q : ℕ) → q < 1024 → get_or (take at sets) q 0 ≡ get_or sets q 0) → Columns columns sets
  filling_end all d low high = record {
    room = omega (arith, length-drop (16 * (d - 1)) columns, f.room);
    each = λ i b i_lt b_low b_high.
        ap (has b) (get_or-drop (16 * (d - 1)) columns i 0)
        ∙ (f.each d i b low high i_lt b_low b_high ∙ ap (has d) (all (64 * i + b - 1) (omega arith)));
  }

  pub filling_done : min (length sets) 1024 ≤ at → Columns columns sets
  filling_done h =
      by_test (leb (length sets) at)
      (λ t. filling_end (λ q lt. ap (λ (l : List ℕ). get_or l q 0) (take_all at sets (leb-true (length sets) at t))))
      (λ t. let more = leb-false (length sets) at t in filling_end (λ q lt. get_or-take at sets q 0 (omega arith)))
