-- Hitting sets and minimal ones: of more sets, of the same sets in another list, of sets of the drives 1 to n.
use Rattle.std.specs.Prelude.{◌≡◌, refl, true, false, ◌&&◌, ◌↔◌, List, [], ◌∷◌, ◌++◌, ℕ, ◌^◌, ◌≤◌, ◌<◌, get_or, None, Some, is_none}
use Rattle.std.proofs.Common.{sym, ap, ◌∙◌, subst, le_refl}
use Rattle.drive_sets.specs.Bools.Laws.{clash, and_intro, and_left, and_right}
use Rattle.drive_sets.specs.Lists.{all, elem}
use Rattle.drive_sets.specs.Lists.FirstFailing.{First, failing_none, failing_at}
use Rattle.drive_sets.specs.Lists.Places.{get_or_elem}
use Rattle.drive_sets.specs.Positions.Laws.{by_position}
use Rattle.drive_sets.specs.Lists.Laws.{all_elem, all_intro, all_append, all_same_elements}
use Rattle.drive_sets.specs.Masks.{has, full, common, meets, subset, Below}
use Rattle.drive_sets.specs.Masks.Laws.{has_common, has_bounds, full_has, common_lt, full_lt, has_subset, has_meets, meets_has, meets_subset}
use Rattle.survivor_tables.specs.Hitting.{first_missed, hits, Minimal}

-- ---- hitting sets

-- there is no first set that a group misses exactly if it meets every one
pub none_missed : (sets : List ℕ) (m : ℕ) → (first_missed sets m ≡ None) ↔ (hits sets m ≡ true)
unfolding hits
none_missed sets m = failing_none (λ s. meets s m) 1 sets

-- and the first that it misses stands at this position: it misses that one, and meets those before it
pub missed_at : (sets : List ℕ) (m p : ℕ) → first_missed sets m ≡ Some p → First (λ s. meets s m) 1 sets p
missed_at sets m p h = failing_at (λ s. meets s m) 1 sets p h

pub some_missed : (sets : List ℕ) (m : ℕ) → is_none (first_missed sets m) ≡ false → (s : ℕ) × (elem s sets ≡ true) × (meets s m ≡ false)
some_missed sets m e =
    by_position (first_missed sets m)
    (λ h. absurd (clash (ap is_none h) e))
    (λ p h. let f = missed_at sets m p h in (get_or sets f.place 0, get_or_elem sets f.place f.within, f.there))

pub hits_meets : (sets : List ℕ) (m s : ℕ) → hits sets m ≡ true → elem s sets ≡ true → meets s m ≡ true
unfolding hits
hits_meets sets m s h e = all_elem (λ x. meets x m) sets s h e

pub meets_hits : (sets : List ℕ) (m : ℕ) → ((s : ℕ) → elem s sets ≡ true → meets s m ≡ true) → hits sets m ≡ true
unfolding hits
meets_hits sets m f = all_intro (λ x. meets x m) sets f

pub hits_append : (l k : List ℕ) (m : ℕ) → hits (l ++ k) m ≡ (hits l m && hits k m)
unfolding hits
hits_append l k m = all_append (λ s. meets s m) l k

pub hits_one : (s m : ℕ) → meets s m ≡ true → hits (s ∷ []) m ≡ true
unfolding hits all
hits_one s m h = and_intro h refl

pub hits_subset : (sets : List ℕ) (a b : ℕ) → a < 2 ^ 64 → subset a b ≡ true → hits sets a ≡ true → hits sets b ≡ true
hits_subset sets a b h e p = meets_hits sets b (λ s i. meets_subset 64 s a b h e (hits_meets sets a s p i))

pub hits_same_elements : (l k : List ℕ) (m : ℕ) → ((x : ℕ) → elem x l ≡ elem x k) → hits l m ≡ hits k m
unfolding hits
hits_same_elements l k m f = all_same_elements (λ s. meets s m) l k f

-- ---- minimal hitting sets

-- lists that the same sets hit have the same minimal hitting sets
pub minimal_same_hits : (l k : List ℕ) (m : ℕ) → ((x : ℕ) → hits l x ≡ hits k x) → Minimal l m → Minimal k m
minimal_same_hits l k m f min =
    record { all_met = sym (f m) ∙ min.all_met; no_part = λ part p q. min.no_part part p (f part ∙ q) }

-- a minimal hitting set that meets more sets is minimal for all of them
pub minimal_more : (l k : List ℕ) (m : ℕ) → Minimal l m → hits k m ≡ true → Minimal (l ++ k) m
minimal_more l k m min h =
    record {
      all_met = hits_append l k m ∙ and_intro min.all_met h;
      no_part = λ part p q. min.no_part part p (and_left (hits l part) (hits k part) (sym (hits_append l k part) ∙ q));
    }

-- a minimal hitting set has no drive above those of the sets
pub minimal_lt : (n : ℕ) (sets : List ℕ) (m : ℕ) → n ≤ 64 → Below n sets → Minimal sets m → m < 2 ^ n
minimal_lt n sets m le f min = subst (λ (x : ℕ). x < 2 ^ n) (min.no_part inside part hit) lt
  where
    inside : ℕ
    inside = common (full n) m

    lt : inside < 2 ^ n
    lt = common_lt n (full n) m (full_lt n)

    part : subset inside m ≡ true
    part = has_subset n inside m lt (λ d e. and_right (has d (full n)) (has d m) (sym (has_common d (full n) m) ∙ e))

    hit : hits sets inside ≡ true
    hit =
        meets_hits sets inside (λ s e.
        let w = meets_has n s m (f s e) (hits_meets sets m s min.all_met e) in
        let b = has_bounds n w.0 s (f s e) w.1 in
        has_meets w.0 s inside w.1 (has_common w.0 (full n) m ∙ and_intro (full_has w.0 n le b.0 b.1) w.2))

pub minimal_word : (sets : List ℕ) (m : ℕ) → Below 64 sets → Minimal sets m → m < 2 ^ 64
minimal_word sets m f min = minimal_lt 64 sets m (le_refl 64) f min
