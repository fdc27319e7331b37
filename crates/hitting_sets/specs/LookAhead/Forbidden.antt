-- One more set s that m misses, all its drives at once: a drive of s can be added exactly if the sets seen do not
-- forbid it, that is, if each drive of m has a private set without it.
use Rattle.std.specs.Prelude.{◌≡◌, false, ◌&&◌, ℕ, ◌^◌, ◌≤◌, ◌<◌}
use Rattle.std.proofs.Math.Path.{refl, sym, ap₂, subst}
use Rattle.std.proofs.Common.{ap, ◌∙◌, le_refl, eqb-true, eq-eqb, ne_eqb}
use Rattle.std.proofs.Math.Bool.{true, not}
use Rattle.std.proofs.Math.Logic.{⊎_elim}
use mathlib.Core.List.{List, [], ◌∷◌, ◌++◌}
use Rattle.std.proofs.Math.Dec.{eqb}
use Rattle.std.proofs.lemmas.Bool.{not-true}
use Rattle.drive_sets.specs.Bools.Laws.{clash, by_test, false_of, and_intro, and_left, and_right, and_not, or_left, or_right, or_cases, cond_false}
use Rattle.drive_sets.specs.Lists.{range, filter, elem}
use Rattle.drive_sets.specs.Lists.Laws.{elem_head, elem_tail, elem_none, elem_cases, elem_append_left, elem_append_right, elem_filter, filter_true, filter_false, filter_same}
use Rattle.drive_sets.specs.Lists.Takes.{filter_filter}
use Rattle.drive_sets.specs.Masks.{has, single, union, common, minus, meets, drives, Below}
use Rattle.drive_sets.specs.Masks.Laws.{has_none, has_union, has_common, has_minus, has_bounds, full_has, subset_union, has_meets, meets_not}
use Rattle.drive_sets.specs.Masks.Sizes.{elem_drives}
use Rattle.drive_sets.specs.Masks.OneDrive.{insert_has, insert_keeps, insert_cases, insert_lt, share_one, shared_has, shared_only, shared_part}
use Rattle.survivor_tables.specs.Hitting.{Minimal, critical, for_each, search}
use Rattle.hitting_sets.specs.LookAhead.{in_all, privates, forbidden}
use Rattle.survivor_tables.specs.Hitting.Laws.{minimal_word}
use Rattle.drive_sets.specs.Masks.Frames.{below_left}
use Rattle.survivor_tables.specs.Hitting.Critical.{Private, all_critical, critical_all}
use Rattle.survivor_tables.specs.Hitting.Growth.{added, grown_minimal, private_cases}
use Rattle.survivor_tables.proofs.Hitting.SearchLaws.{tried, tried_critical, search_missed}

-- ---- what is in all sets, and what is forbidden

pub in_all_has : (x s : ℕ) (sets : List ℕ) → has x (in_all sets) ≡ true → elem s sets ≡ true → has x s ≡ true
unfolding in_all
in_all_has x s [] h e = absurd (clash e (elem_none s))
in_all_has x s (y ∷ sets) h e =
    let both = sym (has_common x y (in_all sets)) ∙ h in
    ⊎_elim
    (λ q. ap (has x) q ∙ and_left (has x y) (has x (in_all sets)) both)
    (λ q. in_all_has x s sets (and_right (has x y) (has x (in_all sets)) both) q)
    (elem_cases s y sets e)

pub in_all_lacks : (x : ℕ) → 1 ≤ x → x ≤ 64 → (sets : List ℕ) → has x (in_all sets) ≡ false → (s : ℕ) × (elem s sets ≡ true) × (has x s ≡ false)
unfolding in_all
in_all_lacks x low high [] h = absurd (clash (full_has x 64 (le_refl 64) low high) h)
in_all_lacks x low high (y ∷ sets) h =
    by_test (has x y)
    (λ e. let w = in_all_lacks x low high sets (and_not (has x y) (has x (in_all sets)) e (sym (has_common x y (in_all sets)) ∙ h)) in
    (w.0, elem_tail w.0 y sets w.1, w.2))
    (λ e. (y, elem_head y sets, e))

-- x is in every private set of one of the drives ds of m, and outside m
pub forbidden_by : (sets : List ℕ) (m x : ℕ) (ds : List ℕ) → has x (forbidden sets m ds) ≡ true
    → (d : ℕ) × (elem d ds ≡ true) × (has x (in_all (privates sets m d)) ≡ true) × (has x m ≡ false)
unfolding forbidden
forbidden_by sets m x [] h = absurd (clash h (has_none x))
forbidden_by sets m x (d ∷ ds) h =
    let all = in_all (privates sets m d) in
    ⊎_elim
    (λ e. let both = sym (has_minus x all m) ∙ e in
    (d, elem_head d ds, and_left (has x all) (not (has x m)) both, not-true (has x m) (and_right (has x all) (not (has x m)) both)))
    (λ e. let w = forbidden_by sets m x ds e in (w.0, elem_tail w.0 d ds w.1, w.2, w.3))
    (or_cases (has x (minus all m)) (has x (forbidden sets m ds)) (sym (has_union x (minus all m) (forbidden sets m ds)) ∙ h))

pub forbids : (sets : List ℕ) (m x d : ℕ) (ds : List ℕ) → elem d ds ≡ true → has x (in_all (privates sets m d)) ≡ true → has x m ≡ false
    → has x (forbidden sets m ds) ≡ true
unfolding forbidden
forbids sets m x d [] i h n = absurd (clash i (elem_none d))
forbids sets m x d (e ∷ ds) i h n =
    has_union x (minus (in_all (privates sets m e)) m) (forbidden sets m ds)
    ∙ ⊎_elim
    (λ q. or_left (has x (forbidden sets m ds))
    (has_minus x (in_all (privates sets m e)) m
    ∙ and_intro (ap (λ (y : ℕ). has x (in_all (privates sets m y))) (sym q) ∙ h) (ap not n)))
    (λ q. or_right (has x (minus (in_all (privates sets m e)) m)) (forbids sets m x d ds q h n))
    (elem_cases d e ds i)

-- ---- one drive added

module _ (seen : List ℕ) (s m : ℕ) (below : Below 64 (seen ++ (s ∷ []))) (min : Minimal seen m) (missed : meets s m ≡ false) where
  abbrev bar : ℕ
  bar = forbidden seen m (drives m)

  m_lt : m < 2 ^ 64
  m_lt = minimal_word seen m (below_left 64 seen (s ∷ []) below) min

  s_lt : s < 2 ^ 64
  s_lt = below s (elem_append_right s seen (s ∷ []) (elem_head s []))

  m_drive : (e : ℕ) → elem e (drives m) ≡ true → has e m ≡ true
  m_drive e h = sym (elem_drives e m m_lt) ∙ h

  module _ (d : ℕ) (i : has d s ≡ true) where
    low : 1 ≤ d
    low = (has_bounds 64 d s s_lt i).0

    high : d ≤ 64
    high = (has_bounds 64 d s s_lt i).1

    new : has d m ≡ false
    new = meets_not d s m missed i

    abbrev t : ℕ
    t = union m (single d)

    t_lt : t < 2 ^ 64
    t_lt = insert_lt d low high m m_lt

    -- a private set of e, a drive of m, with d added is one without it that has not d
    keeps_lacks : (e x : ℕ) → has e m ≡ true → common x t ≡ single e → (common x m ≡ single e) × (has d x ≡ false)
    keeps_lacks e x j p =
        let b = has_bounds 64 e m m_lt j in (
          shared_part e b.0 b.1 x t p m m_lt (subset_union 64 m (single d) m_lt) j,
          false_of (has d x) (λ q.
              clash (ap (λ (y : ℕ). has y m) (shared_only e b.0 b.1 x t p d q (insert_has d low high m)) ∙ j) new),
        )

    -- one that has not d stays private
    lacks_keeps : (e x : ℕ) → has e m ≡ true → common x m ≡ single e → has d x ≡ false → common x t ≡ single e
    lacks_keeps e x j p n =
        let b = has_bounds 64 e m m_lt j in
        share_one e b.0 b.1 x t t_lt (shared_has e b.0 b.1 x m p).0 (insert_keeps d low high e m j) (λ y k l.
        ⊎_elim
        (λ q. shared_only e b.0 b.1 x m p y k q)
        (λ q. absurd (clash (ap (λ (z : ℕ). has z x) (sym q) ∙ k) n))
        (insert_cases d low high y m l))

    -- s becomes private to d
    s_private : common s t ≡ single d
    s_private =
        share_one d low high s t t_lt i (insert_has d low high m) (λ y k l.
        ⊎_elim (λ q. absurd (clash (has_meets y s m k q) missed)) (λ q. q) (insert_cases d low high y m l))

    forbidden_not_critical : has d bar ≡ true → critical (seen ++ (s ∷ [])) t ≡ t → ⊥
    unfolding privates
    forbidden_not_critical h a =
        let w = forbidden_by seen m d (drives m) h in
        let e = w.0 in
        let j = m_drive e w.1 in
        ⊎_elim
        (λ p. let r = keeps_lacks e p.0 j p.2 in
        clash (in_all_has d p.0 (privates seen m e) w.2 (elem_filter (λ x. eqb (common x m) (single e)) p.0 seen ∙ and_intro p.1 (eq-eqb _ _ r.0))) r.1)
        (λ p. let b = has_bounds 64 e m m_lt j in clash (has_meets e s m (shared_has e b.0 b.1 s t p).0 j) missed)
        (private_cases seen s t e (critical_all (seen ++ (s ∷ [])) t t_lt a e (insert_keeps d low high e m j)))

    free_critical : has d bar ≡ false → critical (seen ++ (s ∷ [])) t ≡ t
    unfolding privates
    free_critical h =
        all_critical (seen ++ (s ∷ [])) t t_lt (λ e k. ⊎_elim (own e)
        (λ q. subst (Private (seen ++ (s ∷ [])) t) (sym q) (s, elem_append_right s seen (s ∷ []) (elem_head s []), s_private))
        (insert_cases d low high e m k))
      where
        own : (e : ℕ) → has e m ≡ true → Private (seen ++ (s ∷ [])) t e
        own e j =
            let free = false_of (has d (in_all (privates seen m e))) (λ q. clash (forbids seen m d e (drives m) (elem_drives e m m_lt ∙ j) q new) h) in
            let w = in_all_lacks d low high (privates seen m e) free in
            let x = w.0 in
            let both = sym (elem_filter (λ y. eqb (common y m) (single e)) x seen) ∙ w.1 in (
              x,
              elem_append_left x seen (s ∷ []) (and_left (elem x seen) (eqb (common x m) (single e)) both),
              lacks_keeps e x j (eqb-true _ _ (and_right (elem x seen) (eqb (common x m) (single e)) both)) w.2,
            )

    pub free_minimal : has d bar ≡ false → Minimal (seen ++ (s ∷ [])) t
    free_minimal h = grown_minimal seen s below m t min (added d i missed refl (free_critical h))

    tried_free : (sets : List ℕ) → has d bar ≡ false → tried (seen ++ (s ∷ [])) sets t ≡ search (seen ++ (s ∷ [])) sets t
    tried_free sets h = tried_critical (seen ++ (s ∷ [])) sets t (free_critical h)

    tried_forbidden : (sets : List ℕ) → has d bar ≡ true → tried (seen ++ (s ∷ [])) sets t ≡ []
    unfolding tried
    tried_forbidden sets h = cond_false _ _ (ne_eqb _ _ (forbidden_not_critical h))

  -- ---- all drives of s

  each_free : (sets ds : List ℕ) → ((d : ℕ) → elem d ds ≡ true → has d s ≡ true)
      → for_each (tried (seen ++ (s ∷ [])) sets) m ds ≡ for_each (search (seen ++ (s ∷ [])) sets) m (filter (λ d. not (has d bar)) ds)
  unfolding for_each filter
  each_free sets [] f = refl
  each_free sets (d ∷ ds) f =
      let i = f d (elem_head d ds) in
      let rest = each_free sets ds (λ e h. f e (elem_tail e d ds h)) in
      by_test (has d bar)
      (λ h. ap₂ ◌++◌ (tried_forbidden d i sets h) rest
      ∙ sym (ap (for_each (search (seen ++ (s ∷ [])) sets) m) (filter_false (λ d. not (has d bar)) d ds (ap not h))))
      (λ h. ap₂ ◌++◌ (tried_free d i sets h) rest
      ∙ sym (ap (for_each (search (seen ++ (s ∷ [])) sets) m) (filter_true (λ d. not (has d bar)) d ds (ap not h))))

  free_drives : drives (minus s bar) ≡ filter (λ d. not (has d bar)) (drives s)
  unfolding drives
  free_drives =
      filter_same (λ d. has d (minus s bar)) (λ d. has d s && not (has d bar)) (range 1 64) (λ d _. has_minus d s bar)
      ∙ sym (filter_filter (λ d. not (has d bar)) (λ d. has d s) (range 1 64))

  -- the search goes on with each drive of s that is not forbidden, and with no other
  pub search_free : (sets : List ℕ) → search seen (s ∷ sets) m ≡ for_each (search (seen ++ (s ∷ [])) sets) m (drives (minus s bar))
  search_free sets =
      search_missed seen s sets m missed
      ∙ (each_free sets (drives s) (λ d h. sym (elem_drives d s s_lt) ∙ h) ∙ sym (ap (for_each (search (seen ++ (s ∷ [])) sets) m) free_drives))
