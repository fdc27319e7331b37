-- Where a set is missed, the drives with which the search goes on: those that are not forbidden, and none where m
-- cannot be extended.
use mathlib.Core.Path.{◌≡◌, sym, ap, ap₂, ◌∙◌, subst}
use mathlib.Core.Bool.{true, false, not}
use mathlib.Core.List.{List, [], ◌∷◌, ◌++◌}
use Prim.Native.Nat.{ℕ, suc, ◌+◌, ◌^◌, ◌<◌}
use native.Mathlib.Numerals.{add-one}
use lib.ListN.{length, get_or, take, drop, take-append-drop}
use lib.Seq.{take-suc, drop-cons}
use borrow.Author.Tests.{not-true}
use Rattle.drive_sets.specs.Bools.Laws.{clash, and_left, and_right}
use Rattle.drive_sets.specs.Masks.{has, single, union, minus, meets, drives, Below}
use Rattle.drive_sets.specs.Masks.Laws.{has_none, has_minus, meets_not}
use Rattle.drive_sets.specs.Masks.Sizes.{drives_none}
use Rattle.survivor_tables.specs.Hitting.{Minimal, for_each, search}
use Rattle.drive_sets.specs.Masks.Frames.{below_places}
use Rattle.survivor_tables.proofs.Hitting.SearchLaws.{below_now}
use Rattle.hitting_sets.specs.LookAhead.Forbidden.{free_minimal, search_free}
use Rattle.hitting_sets.specs.LookAhead.CannotExtend.{cannot_extend_search}
use Rattle.hitting_sets.specs.LookAhead.{forbidden, cannot_extend}
use Rattle.hitting_sets.specs.Candidates.{Candidates}

-- m is a minimal hitting set of the sets before i, and misses the set at i
module _ (sets : List ℕ) (i m : ℕ) (words : (k : ℕ) → get_or sets k 0 < 2 ^ 64) (inside : i < length sets) (min : Minimal (take i sets) m) (missed : meets (get_or sets i 0) m ≡ false) where
  abbrev s : ℕ
  s = get_or sets i 0

  below : Below 64 (take i sets ++ drop i sets)
  below = subst (Below 64) (sym (take-append-drop i sets)) (below_places 64 sets words)

  now_is : take (i + 1) sets ≡ take i sets ++ (s ∷ [])
  now_is = ap (λ (k : ℕ). take k sets) (add-one i) ∙ take-suc sets i 0 inside

  below_here : Below 64 (take i sets ++ (s ∷ []))
  below_here = below_now (take i sets) s (drop (suc i) sets) (subst (λ (l : List ℕ). Below 64 (take i sets ++ l)) (drop-cons sets i 0 inside) below)

  pub free_candidates : (r : ℕ) → r ≡ minus s (forbidden (take i sets) m (drives m)) → Candidates sets i m r
  free_candidates r q = subst (Candidates sets i m) (sym q) (record {
    listed = ap (λ (l : List ℕ). search (take i sets) l m) (drop-cons sets i 0 inside)
        ∙ (search_free (take i sets) s m below_here min missed (drop (suc i) sets)
        ∙ ap₂ (λ (l k : List ℕ). for_each (search l k) m (drives (minus s (forbidden (take i sets) m (drives m))))) (sym now_is) (ap (λ (k : ℕ). drop k sets) (sym (add-one i))));
    minimal = λ d h.
        let both = sym (has_minus d s (forbidden (take i sets) m (drives m))) ∙ h in
        subst (λ (l : List ℕ). Minimal l (union m (single d))) (sym now_is)
        (free_minimal (take i sets) s m below_here min missed d (and_left (has d s) (not (has d (forbidden (take i sets) m (drives m)))) both)
        (not-true (has d (forbidden (take i sets) m (drives m))) (and_right (has d s) (not (has d (forbidden (take i sets) m (drives m)))) both)));
  })

  -- s has them, and misses m
  pub free_new : (r : ℕ) → r ≡ minus s (forbidden (take i sets) m (drives m)) → (d : ℕ) → has d r ≡ true → has d m ≡ false
  free_new r q d h =
      let bar = forbidden (take i sets) m (drives m) in
      meets_not d s m missed (and_left (has d s) (not (has d bar)) (sym (has_minus d s bar) ∙ (ap (has d) (sym q) ∙ h)))

  pub cannot_extend_candidates : cannot_extend sets m ≡ true → Candidates sets i m 0
  unfolding for_each
  cannot_extend_candidates h = record {
    listed = cannot_extend_search (take i sets) (drop i sets) m below min (ap (λ (l : List ℕ). cannot_extend l m) (take-append-drop i sets) ∙ h)
        ∙ sym (ap (for_each (search (take (i + 1) sets) (drop (i + 1) sets)) m) drives_none);
    minimal = λ d e. absurd (clash e (has_none d));
  }
