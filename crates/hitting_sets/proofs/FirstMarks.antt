-- The first set that m misses, by the first mark: m meets the sets at all places before it.
use mathlib.Core.Path.{◌≡◌, sym, ap, ◌∙◌, subst}
use mathlib.Core.Bool.{true, false, not}
use mathlib.Core.List.{List}
use Prim.Native.Nat.{ℕ, zero, suc, ◌+◌, ◌-◌, ◌*◌, ◌^◌, ◌≤◌, ◌<◌}
use native.Mathlib.Nat.{le_refl}
use native.Mathlib.Omega.{arith}
use lib.Dec.{ltb}
use lib.ListN.{length, get_or, take, drop, length-drop, length-take}
use lib.Seq.{get_or-take, get_or-drop}
use borrow.Author.Tests.{ltb-true, ltb-false, not-true, not-false}
use Rattle.std.specs.Prelude.{None, Some}
use Rattle.drive_sets.specs.Bools.Laws.{clash, by_test, false_of}
use Rattle.drive_sets.specs.Lists.Laws.{all_intro}
use Rattle.drive_sets.specs.Lists.Places.{get_or_elem, elem_get_or}
use Rattle.drive_sets.specs.Lists.FirstFailing.{failing_later, failing_here, failing_none}
use Rattle.drive_sets.specs.Loops.Scan.{drop_next}
use Rattle.drive_sets.specs.Masks.{has, meets, lowest}
use Rattle.drive_sets.specs.Masks.Laws.{has_none}
use Rattle.drive_sets.specs.Masks.Sizes.{lowest_has, lowest_least}
use Rattle.drive_sets.specs.Loops.Drives.{lowest_bounds}
use Rattle.survivor_tables.specs.Hitting.{hits, missed_from}
use Rattle.survivor_tables.specs.Hitting.Laws.{hits_meets}
use Rattle.hitting_sets.specs.Marks.{Marked}

module _ (sets : List ℕ) (m : ℕ) where
  -- m meets the sets before the place p
  abbrev pub MetBefore : ℕ → Type 0
  MetBefore p = (q : ℕ) → q < p → q < length sets → meets (get_or sets q 0) m ≡ true

  pub met_seen : (seen p : ℕ) → seen ≤ length sets → hits (take seen sets) m ≡ true → p ≤ seen → MetBefore p
  met_seen seen p le h p_le q lt inside =
      ap (λ (s : ℕ). meets s m) (sym (get_or-take seen sets q 0 (omega arith)))
      ∙ hits_meets (take seen sets) m (get_or (take seen sets) q 0) h (get_or_elem (take seen sets) q (omega (arith, length-take seen sets)))

  -- the position of a set that is missed, where those before it are met
  first_at : (n pos at : ℕ) → pos + n ≡ at → at < length sets → MetBefore at → meets (get_or sets at 0) m ≡ false → missed_from (pos + 1) (drop pos sets) m ≡ Some (at + 1)
  first_at zero pos at e lt met miss =
      let here : pos ≡ at = omega (arith, e) in
      ap (λ (l : List ℕ). missed_from (pos + 1) l m) (drop_next sets pos (omega (arith, here)))
      ∙ (failing_here (λ s. meets s m) (pos + 1) (get_or sets pos 0) (drop (pos + 1) sets) (ap (λ (x : ℕ). meets (get_or sets x 0) m) here ∙ miss) ∙ ap (λ (x : ℕ). Some (x + 1)) here)
  first_at (suc n) pos at e lt met miss =
      ap (λ (l : List ℕ). missed_from (pos + 1) l m) (drop_next sets pos (omega (arith, e)))
      ∙ (failing_later (λ s. meets s m) (pos + 1) (get_or sets pos 0) (drop (pos + 1) sets) (met pos (omega (arith, e)) (omega (arith, e)))
      ∙ first_at n (pos + 1) at (omega (arith, e)) lt met miss)

  pub first_missed_law : (pos at : ℕ) → pos ≤ length sets → hits (take pos sets) m ≡ true → at < length sets → MetBefore at → meets (get_or sets at 0) m ≡ false
      → Some (at + 1) ≡ missed_from (pos + 1) (drop pos sets) m
  first_missed_law pos at le h lt met miss =
      by_test (ltb at pos)
      (λ t. absurd (clash (met_seen pos pos le h (le_refl pos) at (ltb-true at pos t) lt) miss))
      (λ t. let from : pos ≤ at = ltb-false at pos t in sym (first_at (at - pos) pos at (omega (arith, from)) lt met miss))

  pub none_missed : (pos p : ℕ) → length sets ≤ p → MetBefore p → None ≡ missed_from (pos + 1) (drop pos sets) m
  none_missed pos p le met =
      sym ((failing_none (λ s. meets s m) (pos + 1) (drop pos sets)).1 (all_intro (λ s. meets s m) (drop pos sets) (λ s e.
      let w = elem_get_or s (drop pos sets) e in
      ap (λ (x : ℕ). meets x m) (sym w.2 ∙ get_or-drop pos sets w.0 0) ∙ met (pos + w.0) (omega (arith, w.1, length-drop pos sets)) (omega (arith, w.1, length-drop pos sets)))))

  module _ {n : ℕ} {missed : List ℕ} (k : Marked n missed sets (λ s. not (meets s m))) (i : ℕ) (lt : i < n) (met : MetBefore (64 * i)) where
    abbrev word : ℕ
    word = get_or missed i 0

    -- no bit of the word before place r is set
    met_more : (r : ℕ) → r ≤ 64 → ((b : ℕ) → has b word ≡ true → r < b) → MetBefore (64 * i + r)
    met_more r high none q q_lt inside =
        by_test (ltb q (64 * i))
        (λ t. met q (ltb-true q (64 * i) t) inside)
        (λ t. let from : 64 * i ≤ q = ltb-false q (64 * i) t in
        let b = q - 64 * i + 1 in
        let there : 64 * i + b - 1 ≡ q = omega (arith, from) in
        let unmarked = false_of (has b word) (λ h. let over = none b h in omega (arith, over, from)) in
        not-false (meets (get_or sets q 0) m)
        (ap (λ (x : ℕ). not (meets (get_or sets x 0) m)) (sym there) ∙ (sym (k.each i b lt (omega arith) (omega (arith, from))) ∙ unmarked)))

    pub met_word : word ≡ 0 → MetBefore (64 * (i + 1))
    met_word z = subst MetBefore (omega arith) (met_more 64 (omega arith) (λ b h. absurd (clash h (ap (has b) z ∙ has_none b))))

    -- `at` is the place of the lowest bit
    module _ (w_lt : get_or missed i 0 < 2 ^ 64) (some : word ≡ 0 → ⊥) (d at : ℕ) (d_is : d ≡ lowest word) (at_is : at ≡ 64 * i + (d - 1)) where
      pub met_to : MetBefore at
      met_to =
          let b = lowest_bounds w_lt some d_is in
          subst MetBefore (sym at_is) (met_more (d - 1) (omega (arith, b.1)) (λ x h. let least = lowest_least x word w_lt h in omega (arith, least, d_is, b.0)))

      pub missed_there : meets (get_or sets at 0) m ≡ false
      missed_there =
          let b = lowest_bounds w_lt some d_is in
          let there : 64 * i + d - 1 ≡ at = omega (arith, at_is, b.0) in
          not-true (meets (get_or sets at 0) m)
          (ap (λ (x : ℕ). not (meets (get_or sets x 0) m)) (sym there)
          ∙ (sym (k.each i d lt b.0 b.1) ∙ (ap (λ (x : ℕ). has x word) d_is ∙ lowest_has word w_lt some)))
