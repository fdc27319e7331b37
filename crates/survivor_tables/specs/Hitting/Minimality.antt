-- A hitting set is minimal exactly if each of its drives has a private set; every hitting set holds a minimal one.
use Rattle.std.specs.Prelude.{◌≡◌, refl, true, false, List, ℕ, zero, suc, ◌^◌, ◌≤◌, ◌<◌, eqb}
use Rattle.std.proofs.Common.{sym, ap, ◌∙◌, arith, eqb-true}
use Rattle.std.proofs.lemmas.Bool.{eqb-false}
use Rattle.drive_sets.specs.Bools.Laws.{clash, by_test, true_of, same_test}
use Rattle.drive_sets.specs.Lists.{any, elem}
use Rattle.drive_sets.specs.Lists.Laws.{any_elem, any_intro}
use Rattle.drive_sets.specs.Masks.{has, single, common, minus, meets, subset, size}
use Rattle.drive_sets.specs.Masks.Laws.{has_bounds, minus_lt, has_subset, subset_has, subset_refl, subset_trans, subset_antisym, subset_lt, subset_minus, has_meets, meets_has, meets_sym}
use Rattle.drive_sets.specs.Masks.Sizes.{size_le, size_remove}
use Rattle.drive_sets.specs.Masks.OneDrive.{remove_keeps, remove_has, share_one, shared_only}
use Rattle.survivor_tables.specs.Hitting.{hits, Minimal, critical}
use Rattle.survivor_tables.specs.Hitting.Laws.{hits_meets, meets_hits, hits_subset}
use Rattle.survivor_tables.specs.Hitting.Critical.{private_critical, all_critical, critical_all, not_all_critical}

-- a set that m meets and m without d does not is private to d
pub missed_private : (d s m : ℕ) → m < 2 ^ 64 → has d m ≡ true → meets s m ≡ true → meets s (minus m (single d)) ≡ false → common s m ≡ single d
missed_private d s m h e p q =
    let w = meets_has 64 m s h (meets_sym m s ∙ p) in
    share_one d low high s m h (ap (λ (x : ℕ). has x s) (sym (only w.0 w.2 w.1)) ∙ w.2) e only
  where
    low : 1 ≤ d
    low = (has_bounds 64 d m h e).0

    high : d ≤ 64
    high = (has_bounds 64 d m h e).1

    only : (x : ℕ) → has x s ≡ true → has x m ≡ true → x ≡ d
    only x i j =
        by_test (eqb x d) (eqb-true x d)
        (λ r. absurd (clash (has_meets x s (minus m (single d)) i (remove_keeps d low high x m j (eqb-false x d r))) q))

-- a hitting set remains one without a drive that has no private set
pub remove_hits : (sets : List ℕ) (d m : ℕ) → m < 2 ^ 64 → has d m ≡ true → hits sets m ≡ true → has d (critical sets m) ≡ false → hits sets (minus m (single d)) ≡ true
remove_hits sets d m h e p q =
    meets_hits sets (minus m (single d)) (λ s i. true_of (meets s (minus m (single d))) (λ r.
    let b = has_bounds 64 d m h e in
    clash (private_critical d b.0 b.1 sets m h (s, i, missed_private d s m h e (hits_meets sets m s p i) r)) q))

-- ---- the criterion

pub minimal_critical : (sets : List ℕ) (m : ℕ) → m < 2 ^ 64 → Minimal sets m → critical sets m ≡ m
minimal_critical sets m h min =
    by_test (eqb (critical sets m) m) (eqb-true (critical sets m) m)
    (λ e. let w = not_all_critical sets m h (eqb-false (critical sets m) m e) in
    let d = w.0 in
    let b = has_bounds 64 d m h w.1 in
    let same = min.no_part (minus m (single d)) (subset_minus 64 m (single d) h) (remove_hits sets d m h w.1 min.all_met w.2) in
    absurd ((remove_has d b.0 b.1 d m (ap (has d) same ∙ w.1)).1 refl))

pub critical_minimal : (sets : List ℕ) (m : ℕ) → m < 2 ^ 64 → hits sets m ≡ true → critical sets m ≡ m → Minimal sets m
critical_minimal sets m h p e =
    record {
      all_met = p;
      no_part = λ part i q. subset_antisym part m i (has_subset 64 m part h (λ d j. kept part i q d j));
    }
  where
    kept : (part : ℕ) → subset part m ≡ true → hits sets part ≡ true → (d : ℕ) → has d m ≡ true → has d part ≡ true
    kept part i q d j =
        let b = has_bounds 64 d m h j in
        let w = critical_all sets m h e d j in
        let x = meets_has 64 part w.0 (subset_lt 64 part m i h) (meets_sym part w.0 ∙ hits_meets sets part w.0 q w.1) in
        ap (λ (y : ℕ). has y part) (sym (shared_only d b.0 b.1 w.0 m w.2 x.0 x.2 (subset_has x.0 part m i x.1))) ∙ x.1

-- ---- every hitting set holds a minimal one

contains : (k : ℕ) (sets : List ℕ) (m : ℕ) → size m ≤ k → m < 2 ^ 64 → hits sets m ≡ true → (c : ℕ) × (subset c m ≡ true) × Minimal sets c
contains zero sets m le h p =
    let none : (d : ℕ) → has d m ≡ true → ⊥ = λ d e. let b = has_bounds 64 d m h e in omega (arith, size_remove d m b.0 b.1 e) in
    (m, subset_refl m, critical_minimal sets m h p (all_critical sets m h (λ d e. absurd (none d e))))
contains (suc k) sets m le h p =
    by_test (eqb (critical sets m) m)
    (λ e. (m, subset_refl m, critical_minimal sets m h p (eqb-true (critical sets m) m e)))
    (λ e. let w = not_all_critical sets m h (eqb-false (critical sets m) m e) in
    let d = w.0 in
    let b = has_bounds 64 d m h w.1 in
    let less = minus m (single d) in
    let c = contains k sets less (omega (arith, size_remove d m b.0 b.1 w.1)) (minus_lt 64 m (single d) h) (remove_hits sets d m h w.1 p w.2) in
    let part = subset_minus 64 m (single d) h in
    (c.0, subset_trans 64 c.0 less m (subset_lt 64 c.0 less c.1 (minus_lt 64 m (single d) h)) c.1 part, c.2))

pub hitting_contains : (sets : List ℕ) (m : ℕ) → m < 2 ^ 64 → hits sets m ≡ true → (c : ℕ) × (subset c m ≡ true) × Minimal sets c
hitting_contains sets m h p = contains 64 sets m (size_le m) h p

-- where l lists the minimal hitting sets, a set holds one of them exactly if it hits
pub holds_minimal_hits : (sets l : List ℕ) → ((c : ℕ) → elem c l ≡ true → Minimal sets c) → ((c : ℕ) → Minimal sets c → elem c l ≡ true)
    → (m : ℕ) → m < 2 ^ 64 → any (λ c. subset c m) l ≡ hits sets m
holds_minimal_hits sets l sound complete m h =
    same_test (any (λ c. subset c m) l) (hits sets m)
    (λ e. let w = any_elem (λ c. subset c m) l e in hits_subset sets w.0 m (subset_lt 64 w.0 m w.2 h) w.2 (sound w.0 w.1).all_met)
    (λ e. let w = hitting_contains sets m h e in any_intro (λ c. subset c m) l w.0 (complete w.0 w.2) w.1)
