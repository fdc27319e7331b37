-- The loops of the search: what is found from the place i on is what is found from the start on, since no set before i
-- is the first.
use mathlib.Core.Path.{◌≡◌, refl, sym, ap, ◌∙◌, subst}
use mathlib.Core.List.{List, [], ◌∷◌}
use mathlib.Core.Option.{Option, none, some}
use Prim.Native.Nat.{ℕ, suc, ◌+◌, ◌≤◌, ◌<◌}
use native.Mathlib.Omega.{arith}
use native.Mathlib.Numerals.{add-one}
use lib.Dec.{eqb}
use lib.ListN.{length, get_or, drop, length-drop}
use borrow.Author.Tests.{not-true, not-false}
use Rattle.drive_sets.specs.Positions.{Position}
use Rattle.std.specs.Prelude.{None, Some}
use Rattle.std.proofs.lemmas.Option.{none-some, same_Some}
use Rattle.drive_sets.specs.Bools.Laws.{by_test, cond_true, cond_false}
use Rattle.drive_sets.specs.Lists.{first_failing}
use Rattle.drive_sets.specs.Lists.FirstFailing.{failing_later, failing_here, failing_at}
use Rattle.drive_sets.specs.Loops.Scan.{drop_next, Scan, scan_next, scan_turn, scan_end}
use Rattle.drive_sets.specs.Masks.{common, meets}
use Rattle.drive_sets.specs.Masks.Laws.{meets_sym}
use Rattle.survivor_tables.specs.Hitting.{missed_from}
use Rattle.verdict_search.specs.Verdicts.{first_with, disjoint}
use Rattle.verdict_search.proofs.Verdicts.Search.{first_here, first_later}
use Rattle.verdict_search.specs.Held.{Found, found_in, in_four}
use Rattle.verdict_search.proofs.Fours.{in_front}

-- the search for k sets from the place i on
abbrev pub From : ℕ → List ℕ → ℕ → ℕ → Option (List ℕ)
From k table m i = disjoint k (suc i) (drop i table) m

abbrev pub Searching : ℕ → List ℕ → ℕ → ℕ → ℕ → Type 0
Searching k table from m i = Scan (From k table m from) (λ l. disjoint k (suc i) l m) table i

module _ (k : ℕ) (table : List ℕ) (from m i : ℕ) (w : Searching (suc k) table from m i) where
  module _ (h : i < length table) {o : Option (List ℕ)} (e : From k table (common m (get_or table i 0)) i ≡ o) where
    -- the rest of the sets is searched with the first of them in front
    here : disjoint k (suc i) (get_or table i 0 ∷ drop (i + 1) table) (common m (get_or table i 0)) ≡ o
    here = ap (λ (l : List ℕ). disjoint k (suc i) l (common m (get_or table i 0))) (sym (drop_next table i h)) ∙ e

    pub search_found : {ps : List ℕ} → o ≡ some ps → some (suc i ∷ ps) ≡ From (suc k) table m from
    unfolding disjoint
    search_found f = sym (first_here (disjoint k) (suc i) (get_or table i 0) m (drop (i + 1) table) (here ∙ f)) ∙ scan_next w h

    pub search_turn : o ≡ none → Searching (suc k) table from m (i + 1)
    unfolding disjoint
    search_turn f =
        scan_turn w h (λ l. disjoint (suc k) (suc (i + 1)) l m)
        (first_later (disjoint k) (suc i) (get_or table i 0) m (drop (i + 1) table) (here ∙ f)
        ∙ ap (λ (j : ℕ). first_with (disjoint k) (suc j) (drop (i + 1) table) m) (sym (add-one i)))

  pub search_end : length table ≤ i → none ≡ From (suc k) table m from
  unfolding disjoint first_with
  search_end h = scan_end w h

-- ---- one set: the first that m misses

one : Position → Option (List ℕ)
one None = none
one (Some p) = some (p ∷ [])

one_missed : (p : ℕ) (sets : List ℕ) (m : ℕ) → disjoint 1 p sets m ≡ one (missed_from p sets m)
unfolding one disjoint first_with first_failing meets common
one_missed p [] m = refl
one_missed p (s ∷ sets) m =
    by_test (meets s m)
    (λ e. first_later (disjoint 0) p s m sets (cond_false (some []) none (not-true (eqb (common m s) 0) (meets_sym m s ∙ e)))
    ∙ (one_missed (suc p) sets m
    ∙ (ap (λ (q : ℕ). one (missed_from q sets m)) (sym (add-one p)) ∙ ap one (sym (failing_later (λ x. meets x m) p s sets e)))))
    (λ e. first_here (disjoint 0) p s m sets (cond_true (some []) none (not-false (eqb (common m s) 0) (meets_sym m s ∙ e))) ∙ ap one (sym (failing_here (λ x. meets x m) p s sets e)))

-- ---- two sets

module _ (table : List ℕ) (from m i : ℕ) (w : Searching 2 table from m i) where
  module _ (h : i < length table) {o : Position} (e : o ≡ missed_from (i + 1) (drop i table) (common m (get_or table i 0))) where
    first_one : From 1 table (common m (get_or table i 0)) i ≡ one o
    first_one =
        let shared = common m (get_or table i 0) in
        one_missed (suc i) (drop i table) shared ∙ ap one (ap (λ (q : ℕ). missed_from q (drop i table) shared) (sym (add-one i)) ∙ sym e)

    pub pair_found : {p : ℕ} → o ≡ Some p → Some ((i + 1) ∷ p ∷ 0 ∷ 0 ∷ []) ≡ found_in (From 2 table m from)
    unfolding found_in in_four one
    pair_found {p = p} f = ap (λ (q : ℕ). found_in (some (q ∷ p ∷ []))) (add-one i) ∙ ap found_in (search_found 1 table from m i w h first_one (ap one f))

    pub pair_within : {p : ℕ} → o ≡ Some p → p ≤ length table
    pair_within {p = p} f = let w = failing_at _ (i + 1) (drop i table) p (sym e ∙ f) in omega (arith, w.at, w.within, length-drop i table)

    pub pair_later : o ≡ None → Searching 2 table from m (i + 1)
    unfolding one
    pair_later f = search_turn 1 table from m i w h first_one (ap one f)

  pub pair_end : length table ≤ i → found_in none ≡ found_in (From 2 table m from)
  pair_end h = ap found_in (search_end 1 table from m i w h)

-- ---- what was found

module _ {r : Found} where
  pub found_none : (o : Option (List ℕ)) → r ≡ found_in o → r ≡ None → o ≡ none
  unfolding found_in
  found_none none e a = refl
  found_none (some ps) e a = absurd (none-some (in_four ps) (sym a ∙ e))

  -- the list found, and its positions in the array
  pub found_some : (o : Option (List ℕ)) {positions : List ℕ} → r ≡ found_in o → r ≡ Some positions → (ps : List ℕ) × (o ≡ some ps) × (positions ≡ in_four ps)
  unfolding found_in
  found_some none {positions} e a = absurd (none-some positions (sym e ∙ a))
  found_some (some ps) {positions} e a = (ps, refl, same_Some positions (in_four ps) (sym a ∙ e))

-- ---- k sets, where the rest of the positions are those found for one set fewer

module _ (k j : ℕ) (table : List ℕ) (from m i : ℕ) (e : k ≡ suc j) (w : Searching k table from m i) where
  now : Searching (suc j) table from m i
  now = subst (λ (x : ℕ). Searching x table from m i) e w

  for_k : {o : Option (List ℕ)} → o ≡ From (suc j) table m from → found_in o ≡ found_in (From k table m from)
  for_k h = ap found_in (h ∙ ap (λ (x : ℕ). From x table m from) (sym e))

  module _ (rest : Found) (h : i < length table) (q : rest ≡ found_in (From j table (common m (get_or table i 0)) i)) where
    pub found_more : {later : List ℕ} → rest ≡ Some later
        → Some ((i + 1) ∷ get_or later 0 0 ∷ get_or later 1 0 ∷ get_or later 2 0 ∷ [])
        ≡ found_in (From k table m from)
    unfolding found_in
    found_more {later} a =
        let f = found_some (From j table (common m (get_or table i 0)) i) q a in
        ap (λ (l : List ℕ). Some l) (in_front (i + 1) f.0 later f.2)
        ∙ (ap (λ (p : ℕ). found_in (some (p ∷ f.0))) (add-one i) ∙ for_k (search_found j table from m i now h f.1 refl))

    pub found_later : rest ≡ None → Searching k table from m (i + 1)
    found_later a = subst (λ (x : ℕ). Searching x table from m (i + 1)) (sym e) (search_turn j table from m i now h (found_none _ q a) refl)

  pub found_end : length table ≤ i → found_in none ≡ found_in (From k table m from)
  found_end h = for_k (search_end j table from m i now h)
