-- One more set s: each minimal hitting set of `seen` and s grows from exactly one minimal hitting set of `seen`, the
-- step of Berge's method.
use Rattle.std.specs.Prelude.{◌≡◌, refl, true, false, ◌⊎◌, List, [], ◌∷◌, ◌++◌, ℕ, ◌^◌, ◌≤◌, ◌<◌, eqb}
use Rattle.std.proofs.Common.{sym, ap, ◌∙◌, subst, inl, inr, ⊎_elim, eqb-true}
use Rattle.std.proofs.lemmas.Bool.{eqb-false}
use Rattle.drive_sets.specs.Bools.Laws.{clash, by_test, false_of, and_intro, and_left}
use Rattle.drive_sets.specs.Lists.{elem}
use Rattle.drive_sets.specs.Lists.Laws.{elem_head, elem_append_right, elem_append_cases, elem_one}
use Rattle.drive_sets.specs.Masks.{has, single, union, common, minus, meets, subset, Below}
use Rattle.drive_sets.specs.Masks.Laws.{has_bounds, minus_lt, subset_refl, subset_union, subset_minus, has_meets, meets_not, not_meets}
use Rattle.drive_sets.specs.Masks.OneDrive.{insert_has, insert_new, insert_lt, remove_has, insert_remove, remove_insert, shared_has, shared_only, shared_part}
use Rattle.survivor_tables.specs.Hitting.{hits, Minimal, critical}
use Rattle.survivor_tables.specs.Hitting.Laws.{hits_meets, hits_append, hits_one, hits_subset, minimal_more, minimal_word}
use Rattle.drive_sets.specs.Masks.Frames.{below_left}
use Rattle.survivor_tables.specs.Hitting.Critical.{Private, private_critical, all_critical, critical_all, not_all_critical}
use Rattle.survivor_tables.specs.Hitting.Minimality.{remove_hits, minimal_critical, critical_minimal}

-- t is m where m meets s; where m misses s, t is m with a drive of s, and each drive of t has a private set among `now`
pub data Grown (now : List ℕ) (s m t : ℕ) : Type 0 where
  met : meets s m ≡ true → t ≡ m → Grown now s m t
  added : (d : ℕ) → has d s ≡ true → meets s m ≡ false → t ≡ union m (single d) → critical now t ≡ t → Grown now s m t

pub grown_subset : (now : List ℕ) (s m t : ℕ) → m < 2 ^ 64 → Grown now s m t → subset m t ≡ true
grown_subset now s m t h (met p e) = ap (subset m) e ∙ subset_refl m
grown_subset now s m t h (added d i p e a) = ap (subset m) e ∙ subset_union 64 m (single d) h

-- a private set among `seen` and s is among `seen`, or is s
pub private_cases : (seen : List ℕ) (s m d : ℕ) → Private (seen ++ (s ∷ [])) m d → Private seen m d ⊎ (common s m ≡ single d)
private_cases seen s m d w =
    ⊎_elim
    (λ i. inl (w.0, i, w.2))
    (λ i. inr (ap (λ (x : ℕ). common x m) (sym (elem_one w.0 s i)) ∙ w.2))
    (elem_append_cases w.0 seen (s ∷ []) w.1)

module _ (seen : List ℕ) (s : ℕ) (below : Below 64 (seen ++ (s ∷ []))) where
  s_in : elem s (seen ++ (s ∷ [])) ≡ true
  s_in = elem_append_right s seen (s ∷ []) (elem_head s [])

  s_lt : s < 2 ^ 64
  s_lt = below s s_in

  seen_lt : (m : ℕ) → Minimal seen m → m < 2 ^ 64
  seen_lt m min = minimal_word seen m (below_left 64 seen (s ∷ []) below) min

  -- ---- what grows is minimal

  pub grown_minimal : (m t : ℕ) → Minimal seen m → Grown (seen ++ (s ∷ [])) s m t → Minimal (seen ++ (s ∷ [])) t
  grown_minimal m t min (met p e) = subst (Minimal (seen ++ (s ∷ []))) (sym e) (minimal_more seen (s ∷ []) m min (hits_one s m p))
  grown_minimal m t min (added d i p e a) =
      critical_minimal (seen ++ (s ∷ [])) t (subst (λ (x : ℕ). x < 2 ^ 64) (sym e) (insert_lt d low high m (seen_lt m min)))
      (hits_append seen (s ∷ []) t
      ∙ and_intro
      (hits_subset seen m t (seen_lt m min) (grown_subset (seen ++ (s ∷ [])) s m t (seen_lt m min) (added d i p e a)) min.all_met)
      (hits_one s t (has_meets d s t i (ap (has d) e ∙ insert_has d low high m))))
      a
    where
      low : 1 ≤ d
      low = (has_bounds 64 d s s_lt i).0

      high : d ≤ 64
      high = (has_bounds 64 d s s_lt i).1

  -- ---- what is minimal has grown

  pub minimal_grown : (t : ℕ) → Minimal (seen ++ (s ∷ [])) t → (m : ℕ) × Minimal seen m × Grown (seen ++ (s ∷ [])) s m t
  minimal_grown t min =
      by_test (eqb (critical seen t) t)
      (λ e. (t, critical_minimal seen t lt hit (eqb-true (critical seen t) t e), met (hits_meets (seen ++ (s ∷ [])) t s min.all_met s_in) refl))
      (λ e. let w = not_all_critical seen t lt (eqb-false (critical seen t) t e) in from w.0 w.1 w.2)
    where
      lt : t < 2 ^ 64
      lt = minimal_word (seen ++ (s ∷ [])) t below min

      hit : hits seen t ≡ true
      hit = and_left (hits seen t) (hits (s ∷ []) t) (sym (hits_append seen (s ∷ []) t) ∙ min.all_met)

      own : (d : ℕ) → has d t ≡ true → Private seen t d ⊎ (common s t ≡ single d)
      own d i = private_cases seen s t d (critical_all (seen ++ (s ∷ [])) t lt (minimal_critical (seen ++ (s ∷ [])) t lt min) d i)

      -- the only private set of u is s: t without u is minimal for `seen`
      from : (u : ℕ) → has u t ≡ true → has u (critical seen t) ≡ false → (m : ℕ) × Minimal seen m × Grown (seen ++ (s ∷ [])) s m t
      from u i not_critical = (
        rest,
        critical_minimal seen rest rest_lt (remove_hits seen u t lt i hit not_critical) (all_critical seen rest rest_lt keeps),
        added u (shared_has u low high s t private_s).0 misses (sym (insert_remove u low high t lt i)) (minimal_critical (seen ++ (s ∷ [])) t lt min),
      )
        where
          low : 1 ≤ u
          low = (has_bounds 64 u t lt i).0

          high : u ≤ 64
          high = (has_bounds 64 u t lt i).1

          private_s : common s t ≡ single u
          private_s = ⊎_elim (λ w. absurd (clash (private_critical u low high seen t lt w) not_critical)) (λ e. e) (own u i)

          rest : ℕ
          rest = minus t (single u)

          rest_lt : rest < 2 ^ 64
          rest_lt = minus_lt 64 t (single u) lt

          misses : meets s rest ≡ false
          misses =
              not_meets 64 s rest s_lt (λ x p. false_of (has x rest) (λ q.
              let r = remove_has u low high x t q in r.1 (shared_only u low high s t private_s x p r.0)))

          keeps : (d : ℕ) → has d rest ≡ true → Private seen rest d
          keeps d p =
              let r = remove_has u low high d t p in
              let b = has_bounds 64 d t lt r.0 in
              ⊎_elim
              (λ w. (w.0, w.1, shared_part d b.0 b.1 w.0 t w.2 rest rest_lt (subset_minus 64 t (single u) lt) p))
              (λ e. absurd (r.1 (shared_only u low high s t private_s d (shared_has d b.0 b.1 s t e).0 r.0)))
              (own d r.0)

  -- ---- from one alone

  -- where t is minimal for `seen` already it has grown from itself
  grown_same : (now : List ℕ) (m k t : ℕ) → Minimal seen m → Minimal seen k → t ≡ m → Grown now s k t → k ≡ m
  grown_same now m k t mmin kmin e g = mmin.no_part k (ap (subset k) (sym e) ∙ grown_subset now s k t (seen_lt k kmin) g) kmin.all_met

  pub grown_unique : (now : List ℕ) (m k t : ℕ) → Minimal seen m → Minimal seen k → Grown now s m t → Grown now s k t → m ≡ k
  grown_unique now m k t mmin kmin (met p e) g = sym (grown_same now m k t mmin kmin e g)
  grown_unique now m k t mmin kmin (added d i p e a) (met q r) = grown_same now k m t kmin mmin r (added d i p e a)
  grown_unique now m k t mmin kmin (added d i p e a) (added c j q r o) =
      sym (without d m mmin i p e) ∙ (ap (λ (x : ℕ). minus t (single x)) same ∙ without c k kmin j q r)
    where
      without : (d m : ℕ) → Minimal seen m → has d s ≡ true → meets s m ≡ false → t ≡ union m (single d) → minus t (single d) ≡ m
      without d m min i p e =
          let b = has_bounds 64 d s s_lt i in
          ap (λ (x : ℕ). minus x (single d)) e ∙ remove_insert d b.0 b.1 m (seen_lt m min) (meets_not d s m p i)

      same : d ≡ c
      same =
          let b = has_bounds 64 d s s_lt i in
          let f = has_bounds 64 c s s_lt j in
          insert_new c f.0 f.1 d k (meets_not d s k q i) (ap (has d) (sym r ∙ e) ∙ insert_has d b.0 b.1 m)
