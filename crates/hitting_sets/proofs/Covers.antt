-- Only sets that m misses cover: where m meets the sets seen, those ahead decide.
use mathlib.Core.Path.{◌≡◌, sym, ap, ◌∙◌}
use mathlib.Core.Bool.{Bool, true, false, not, ◌||◌}
use mathlib.Core.List.{List, ◌++◌}
use Prim.Native.Nat.{ℕ, ◌-◌, ◌^◌, ◌<◌}
use native.Mathlib.Nat.{le_of_eq}
use lib.Dec.{eqb}
use lib.ListN.{length, take, drop, length-drop, take-append-drop}
use lib.Seq.{take_all}
use borrow.Author.Tests.{not-true}
use Rattle.drive_sets.specs.Bools.Laws.{clash, false_of, and_right}
use Rattle.drive_sets.specs.Lists.{filter}
use Rattle.drive_sets.specs.Lists.Laws.{any_append, any_elem, filter_same}
use Rattle.drive_sets.specs.Masks.{has, union, minus, subset, drives}
use Rattle.drive_sets.specs.Masks.Laws.{has_minus, subset_has, meets_has, meets_sym}
use Rattle.survivor_tables.specs.Hitting.{hits, critical}
use Rattle.survivor_tables.specs.Hitting.Laws.{hits_meets}
use Rattle.hitting_sets.specs.LookAhead.{forbidden, covered, cannot_extend}

none_covers : (sets : List ℕ) (m bar p : ℕ) → m < 2 ^ 64 → hits sets m ≡ true → covered sets m bar p ≡ false
unfolding covered
none_covers sets m bar p word h =
    false_of (covered sets m bar p) (λ e.
    let w = any_elem (λ s. subset s (minus (union bar p) m)) sets e in
    let d = meets_has 64 m w.0 word (meets_sym m w.0 ∙ hits_meets sets m w.0 h w.1) in
    let both = sym (has_minus d.0 (union bar p) m) ∙ subset_has d.0 w.0 (minus (union bar p) m) w.2 d.2 in
    clash d.1 (not-true (has d.0 m) (and_right (has d.0 (union bar p)) (not (has d.0 m)) both)))

covered_append : (l k : List ℕ) (m bar p : ℕ) → covered (l ++ k) m bar p ≡ (covered l m bar p || covered k m bar p)
unfolding covered
covered_append l k m bar p = any_append (λ s. subset s (minus (union bar p) m)) l k

module _ (sets : List ℕ) (seen m : ℕ) (word : m < 2 ^ 64) (h : hits (take seen sets) m ≡ true) where
  covered_ahead : (bar p : ℕ) → covered (drop seen sets) m bar p ≡ covered sets m bar p
  covered_ahead bar p =
      sym (ap (λ (l : List ℕ). covered l m bar p) (sym (take-append-drop seen sets))
      ∙ (covered_append (take seen sets) (drop seen sets) m bar p
      ∙ ap (λ (b : Bool). b || covered (drop seen sets) m bar p) (none_covers (take seen sets) m bar p word h)))

  -- the sets ahead as a part of the slice
  pub cannot_extend_ahead : (bar found : ℕ) → bar ≡ forbidden sets m (drives m)
      → found ≡ critical (filter (λ s. not (covered (take (length sets - seen) (drop seen sets)) m bar s)) sets) m → not (eqb found m) ≡ cannot_extend sets m
  unfolding cannot_extend
  cannot_extend_ahead bar found p q = ap (λ (x : ℕ). not (eqb x m)) (q ∙ ap (λ (l : List ℕ). critical l m) same)
    where
      same : filter (λ s. not (covered (take (length sets - seen) (drop seen sets)) m bar s)) sets ≡ filter (λ s. not (covered sets m (forbidden sets m (drives m)) s)) sets
      same =
          filter_same (λ s. not (covered (take (length sets - seen) (drop seen sets)) m bar s)) (λ s. not (covered sets m (forbidden sets m (drives m)) s)) sets
          (λ s e. ap not (ap (λ (l : List ℕ). covered l m bar s) (take_all (length sets - seen) (drop seen sets) (le_of_eq (length-drop seen sets)))
          ∙ (covered_ahead bar s ∙ ap (λ (x : ℕ). covered sets m x s) p)))
