-- What the search lists: exactly the minimal hitting sets.
use Rattle.std.specs.Prelude.{◌≡◌, refl, true, false, cond, List, [], ◌∷◌, ◌++◌, ℕ, ◌^◌, ◌<◌, eqb}
use Rattle.std.proofs.Common.{sym, ap, ◌∙◌, subst, ⊎_elim, append-nil, eqb-true, eq-eqb}
use Rattle.std.proofs.Math.Seq.{append_snoc}
use Rattle.drive_sets.specs.Bools.Laws.{clash, by_test, cond_true, cond_false}
use Rattle.drive_sets.specs.Lists.{elem}
use Rattle.drive_sets.specs.Lists.Laws.{elem_head, elem_tail, elem_none, elem_one, elem_cases, elem_append_left, elem_append_right, elem_append_cases}
use Rattle.drive_sets.specs.Masks.{single, union, meets, subset, drives, Below}
use Rattle.drive_sets.specs.Masks.Laws.{none_subset, subset_refl, subset_trans, subset_antisym}
use Rattle.drive_sets.specs.Masks.Sizes.{elem_drives}
use Rattle.survivor_tables.specs.Hitting.{hits, Minimal, critical, for_each, search, minimals}
use Rattle.survivor_tables.specs.Hitting.Laws.{minimal_word, meets_hits}
use Rattle.drive_sets.specs.Masks.Frames.{below_left}
use Rattle.survivor_tables.specs.Hitting.Growth.{Grown, met, added, grown_subset, grown_minimal, minimal_grown}

-- ---- each of the drives tried

pub for_each_elem : (f : ℕ → List ℕ) (m : ℕ) (ds : List ℕ) (u : ℕ) → elem u (for_each f m ds) ≡ true
    → (d : ℕ) × (elem d ds ≡ true) × (elem u (f (union m (single d))) ≡ true)
unfolding for_each
for_each_elem f m [] u e = absurd (clash e (elem_none u))
for_each_elem f m (d ∷ ds) u e =
    ⊎_elim
    (λ h. (d, elem_head d ds, h))
    (λ h. let w = for_each_elem f m ds u h in (w.0, elem_tail w.0 d ds w.1, w.2))
    (elem_append_cases u (f (union m (single d))) (for_each f m ds) e)

pub elem_for_each : (f : ℕ → List ℕ) (m : ℕ) (ds : List ℕ) (u d : ℕ) → elem d ds ≡ true → elem u (f (union m (single d))) ≡ true
    → elem u (for_each f m ds) ≡ true
unfolding for_each
elem_for_each f m [] u d i e = absurd (clash i (elem_none d))
elem_for_each f m (c ∷ ds) u d i e =
    ⊎_elim
    (λ h. elem_append_left u (f (union m (single c))) (for_each f m ds) (ap (λ (x : ℕ). elem u (f (union m (single x)))) (sym h) ∙ e))
    (λ h. elem_append_right u (f (union m (single c))) (for_each f m ds) (elem_for_each f m ds u d h e))
    (elem_cases d c ds i)

-- ---- one set further

-- what is found from t, if each drive of t has a private set
unfoldable pub tried : List ℕ → List ℕ → ℕ → List ℕ
tried now sets t =
    let below = search now sets t in
    cond (eqb (critical now t) t) below []

pub tried_elem : (now sets : List ℕ) (t u : ℕ) → elem u (tried now sets t) ≡ true → (critical now t ≡ t) × (elem u (search now sets t) ≡ true)
unfolding tried
tried_elem now sets t u e =
    by_test (eqb (critical now t) t)
    (λ h. (eqb-true (critical now t) t h, ap (elem u) (sym (cond_true (search now sets t) [] h)) ∙ e))
    (λ h. absurd (clash e (ap (elem u) (cond_false (search now sets t) [] h) ∙ elem_none u)))

pub tried_critical : (now sets : List ℕ) (t : ℕ) → critical now t ≡ t → tried now sets t ≡ search now sets t
unfolding tried
tried_critical now sets t e = cond_true (search now sets t) [] (eq-eqb (critical now t) t e)

module _ (seen : List ℕ) (s : ℕ) (sets : List ℕ) (m : ℕ) where
  pub search_met : meets s m ≡ true → search seen (s ∷ sets) m ≡ search (seen ++ (s ∷ [])) sets m
  unfolding search
  search_met e = cond_true _ _ e

  pub search_missed : meets s m ≡ false → search seen (s ∷ sets) m ≡ for_each (tried (seen ++ (s ∷ [])) sets) m (drives s)
  unfolding search tried
  search_missed e = cond_false _ _ e

  pub search_grown : s < 2 ^ 64 → (u : ℕ) → elem u (search seen (s ∷ sets) m) ≡ true
      → (t : ℕ) × Grown (seen ++ (s ∷ [])) s m t × (elem u (search (seen ++ (s ∷ [])) sets t) ≡ true)
  search_grown lt u e =
      by_test (meets s m)
      (λ h. (m, met h refl, ap (elem u) (sym (search_met h)) ∙ e))
      (λ h. let w = for_each_elem (tried (seen ++ (s ∷ [])) sets) m (drives s) u (ap (elem u) (sym (search_missed h)) ∙ e) in
      let d = w.0 in
      let r = tried_elem (seen ++ (s ∷ [])) sets (union m (single d)) u w.2 in
      (union m (single d), added d (sym (elem_drives d s lt) ∙ w.1) h refl r.0, r.1))

  pub grown_search : s < 2 ^ 64 → (u t : ℕ) → Grown (seen ++ (s ∷ [])) s m t → elem u (search (seen ++ (s ∷ [])) sets t) ≡ true
      → elem u (search seen (s ∷ sets) m) ≡ true
  grown_search lt u t (met h q) e = ap (elem u) (search_met h) ∙ (ap (λ (x : ℕ). elem u (search (seen ++ (s ∷ [])) sets x)) (sym q) ∙ e)
  grown_search lt u t (added d i h q a) e =
      ap (elem u) (search_missed h)
      ∙ elem_for_each (tried (seen ++ (s ∷ [])) sets) m (drives s) u d (elem_drives d s lt ∙ i)
      (ap (λ (x : ℕ). elem u (tried (seen ++ (s ∷ [])) sets x)) (sym q) ∙ (ap (elem u) (tried_critical (seen ++ (s ∷ [])) sets t a) ∙ e))

pub search_end : (seen : List ℕ) (m u : ℕ) → elem u (search seen [] m) ≡ true → u ≡ m
unfolding search
search_end seen m u e = elem_one u m e

end_search : (seen : List ℕ) (m : ℕ) → elem m (search seen [] m) ≡ true
unfolding search
end_search seen m = elem_head m []

-- ---- all sets

module _ (seen : List ℕ) (s : ℕ) (sets : List ℕ) (below : Below 64 (seen ++ (s ∷ sets))) where
  pub below_passed : Below 64 ((seen ++ (s ∷ [])) ++ sets)
  below_passed = subst (Below 64) (sym (append_snoc seen s sets)) below

  pub below_now : Below 64 (seen ++ (s ∷ []))
  below_now = below_left 64 (seen ++ (s ∷ [])) sets below_passed

  pub below_next : s < 2 ^ 64
  below_next = below s (elem_append_right s seen (s ∷ sets) (elem_head s sets))

-- from a minimal hitting set m of those seen, the search lists minimal hitting sets of all that hold m
pub search_minimal : (seen rest : List ℕ) (m u : ℕ) → Below 64 (seen ++ rest) → Minimal seen m → elem u (search seen rest m) ≡ true
    → Minimal (seen ++ rest) u × (subset m u ≡ true)
search_minimal seen [] m u b min e =
    let q = search_end seen m u e in
    (subst (Minimal (seen ++ [])) (sym q) (subst (λ (l : List ℕ). Minimal l m) (sym (append-nil seen)) min), ap (subset m) q ∙ subset_refl m)
search_minimal seen (s ∷ sets) m u b min e =
    let w = search_grown seen s sets m (below_next seen s sets b) u e in
    let r = search_minimal (seen ++ (s ∷ [])) sets w.0 u (below_passed seen s sets b) (grown_minimal seen s (below_now seen s sets b) m w.0 min w.1) w.2 in
    let lt = minimal_word seen m (below_left 64 seen (s ∷ sets) b) min in (
      subst (λ (l : List ℕ). Minimal l u) (append_snoc seen s sets) r.0,
      subset_trans 64 m w.0 u lt (grown_subset (seen ++ (s ∷ [])) s m w.0 lt w.1) r.1,
    )

-- each minimal hitting set of all is listed from a minimal one of those seen
pub minimal_search : (seen rest : List ℕ) (u : ℕ) → Below 64 (seen ++ rest) → Minimal (seen ++ rest) u
    → (m : ℕ) × Minimal seen m × (elem u (search seen rest m) ≡ true)
minimal_search seen [] u b min = (u, subst (λ (l : List ℕ). Minimal l u) (append-nil seen) min, end_search seen u)
minimal_search seen (s ∷ sets) u b min =
    let r = minimal_search (seen ++ (s ∷ [])) sets u (below_passed seen s sets b) (subst (λ (l : List ℕ). Minimal l u) (sym (append_snoc seen s sets)) min) in
    let w = minimal_grown seen s (below_now seen s sets b) r.0 r.1 in
    (w.0, w.1, grown_search seen s sets w.0 (below_next seen s sets b) u r.0 w.2 r.2)

-- ---- from no set and no drive

none_hits : (m : ℕ) → hits [] m ≡ true
none_hits m = meets_hits [] m (λ s e. absurd (clash e (elem_none s)))

pub none_minimal : Minimal [] 0
none_minimal = record { all_met = none_hits 0; no_part = λ part p q. subset_antisym part 0 p (none_subset part) }

pub minimals_minimal : (sets : List ℕ) (m : ℕ) → Below 64 sets → elem m (minimals sets) ≡ true → Minimal sets m
unfolding minimals
minimals_minimal sets m b e = (search_minimal [] sets 0 m b none_minimal e).0

pub minimal_found : (sets : List ℕ) (m : ℕ) → Below 64 sets → Minimal sets m → elem m (minimals sets) ≡ true
unfolding minimals
minimal_found sets m b min =
    let w = minimal_search [] sets m b min in
    ap (λ (x : ℕ). elem m (search [] sets x)) (w.1.no_part 0 (none_subset w.0) (none_hits 0)) ∙ w.2
