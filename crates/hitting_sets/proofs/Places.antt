-- The search at a place of the list of sets: those before it are seen, those from it on are to come.
use mathlib.Core.Path.{◌≡◌, refl, sym, ap, ◌∙◌, subst}
use mathlib.Core.Bool.{true, false}
use mathlib.Core.List.{List, [], ◌∷◌}
use Prim.Native.Nat.{ℕ, zero, suc, ◌+◌, ◌-◌, ◌≤◌, ◌<◌}
use native.Mathlib.Nat.{le_refl}
use native.Mathlib.Omega.{arith}
use lib.Dec.{eqb}
use lib.ListN.{length, get_or, take, drop, drop_of_length-le, length-drop}
use lib.Seq.{take-suc, drop-cons, get_or-drop}
use borrow.Author.Tests.{eqb-true, eqb-false}
use Rattle.drive_sets.specs.Bools.Laws.{by_test}
use Rattle.std.specs.Prelude.{None, Some}
use Rattle.drive_sets.specs.Lists.FirstFailing.{failing_none, failing_at}
use Rattle.drive_sets.specs.Lists.Laws.{all_elem}
use Rattle.drive_sets.specs.Lists.Places.{get_or_elem}
use Rattle.drive_sets.specs.Masks.{meets}
use Rattle.survivor_tables.specs.Hitting.{missed_from, Minimal, for_each, search}
use Rattle.survivor_tables.specs.Hitting.Laws.{hits_one, minimal_more}
use Rattle.survivor_tables.proofs.Hitting.SearchLaws.{search_met}

-- what is listed from m, behind the set at position p, with each of the drives ds
abbrev pub Each : List ℕ → ℕ → ℕ → List ℕ → List ℕ
Each sets p m ds = for_each (search (take p sets) (drop p sets)) m ds

-- m meets the sets from the place pos up to the place r
pub record Met (sets : List ℕ) (pos m r : ℕ) : Type 0 where
  pub from : pos ≤ r
  pub within : r ≤ length sets
  pub met : (i : ℕ) → pos ≤ i → i < r → meets (get_or sets i 0) m ≡ true

-- the first set that m misses from a place on, at position k, or none
module _ (sets : List ℕ) (pos m : ℕ) where
  at_place : (j i : ℕ) → pos + j ≡ i → meets (get_or sets i 0) m ≡ meets (get_or (drop pos sets) j 0) m
  at_place j i e = ap (λ (x : ℕ). meets (get_or sets x 0) m) (sym e) ∙ ap (λ (s : ℕ). meets s m) (sym (get_or-drop pos sets j 0))

  pub missed_next : (k : ℕ) → missed_from (pos + 1) (drop pos sets) m ≡ Some k
      → (1 ≤ k) × (k - 1 < length sets) × Met sets pos m (k - 1) × (meets (get_or sets (k - 1) 0) m ≡ false)
  missed_next k h =
      let f = failing_at (λ s. meets s m) (pos + 1) (drop pos sets) k h in
      let long = length-drop pos sets in
      let met : Met sets pos m (k - 1) = record {
        from = omega (arith, f.at);
        within = omega (arith, f.at, f.within, long);
        met = λ i low high. at_place (i - pos) i (omega arith) ∙ f.before (i - pos) (omega (arith, f.at));
      } in
      (omega (arith, f.at), omega (arith, f.at, f.within, long), met, at_place f.place (k - 1) (omega (arith, f.at)) ∙ f.there)

  pub none_next : pos ≤ length sets → missed_from (pos + 1) (drop pos sets) m ≡ None → Met sets pos m (length sets)
  none_next le h =
      let all_met = (failing_none (λ s. meets s m) (pos + 1) (drop pos sets)).0 h in
      record {
        from = le;
        within = le_refl (length sets);
        met = λ i low high.
            at_place (i - pos) i (omega arith)
            ∙ all_elem (λ s. meets s m) (drop pos sets) _ all_met (get_or_elem (drop pos sets) (i - pos) (omega (arith, length-drop pos sets)));
      }

module _ (sets : List ℕ) (m : ℕ) where
  -- what the search lists from the place i on
  abbrev pub From : ℕ → List ℕ
  From i = search (take i sets) (drop i sets) m

  pub from_end : (i : ℕ) → length sets ≤ i → From i ≡ m ∷ []
  unfolding search
  from_end i h = ap (λ (l : List ℕ). search (take i sets) l m) (drop_of_length-le sets h)

  module _ (i : ℕ) (h : i < length sets) where
    at_next : From i ≡ search (take i sets) (get_or sets i 0 ∷ drop (suc i) sets) m
    at_next = ap (λ (l : List ℕ). search (take i sets) l m) (drop-cons sets i 0 h)

    from_met : meets (get_or sets i 0) m ≡ true → From i ≡ From (suc i)
    from_met e =
        at_next ∙ (search_met (take i sets) (get_or sets i 0) (drop (suc i) sets) m e ∙ ap (λ (l : List ℕ). search l (drop (suc i) sets) m) (sym (take-suc sets i 0 h)))

    minimal_met : meets (get_or sets i 0) m ≡ true → Minimal (take i sets) m → Minimal (take (suc i) sets) m
    minimal_met e min =
        subst (λ (l : List ℕ). Minimal l m) (sym (take-suc sets i 0 h))
        (minimal_more (take i sets) (get_or sets i 0 ∷ []) m min (hits_one (get_or sets i 0) m e))

  -- ---- the sets that m meets are passed over

  module _ (pos : ℕ) where
    Passed : ℕ → Type 0
    Passed next = (From pos ≡ From next) × (Minimal (take pos sets) m → Minimal (take next sets) m)

    none_passed : (next : ℕ) → pos ≡ next → Passed next
    unfolding Passed
    none_passed next e = subst Passed e (refl, λ min. min)

    passed : (next : ℕ) → pos ≤ next → next ≤ length sets → ((i : ℕ) → pos ≤ i → i < next → meets (get_or sets i 0) m ≡ true) → Passed next
    unfolding Passed
    passed zero p h f = none_passed zero (omega arith)
    passed (suc i) p h f =
        by_test (eqb pos (suc i))
        (λ e. none_passed (suc i) (eqb-true pos (suc i) e))
        (λ e. let ne = eqb-false pos (suc i) e in
        let w = passed i (omega arith) (omega arith) (λ k q r. f k q (omega arith)) in
        let hit = f i (omega arith) (omega arith) in
        (w.0 ∙ from_met i h hit, λ min. minimal_met i h hit (w.1 min)))

    module _ (next : ℕ) (f : Met sets pos m next) where
      pub passed_search : From pos ≡ From next
      unfolding Passed
      passed_search = (passed next f.from f.within f.met).0

      pub passed_minimal : Minimal (take pos sets) m → Minimal (take next sets) m
      unfolding Passed
      passed_minimal = (passed next f.from f.within f.met).1
