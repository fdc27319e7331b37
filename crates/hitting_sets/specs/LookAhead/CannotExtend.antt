-- The look-ahead is right: no minimal hitting set holds a set that it says cannot be extended, so the search finds
-- nothing from it.
use Rattle.std.specs.Prelude.{◌≡◌, true, List, [], ◌++◌}
use Rattle.std.proofs.Math.Path.{sym}
use Rattle.std.proofs.Common.{ap, ◌∙◌, ⊎_elim, eq-eqb}
use Rattle.std.proofs.Math.Bool.{Bool, not}
use Prim.Native.Nat.{ℕ, ◌^◌, ◌≤◌, ◌<◌}
use Rattle.std.proofs.Math.Dec.{eqb}
use Rattle.std.proofs.lemmas.Bool.{eqb-false, not-true}
use Rattle.drive_sets.specs.Bools.Laws.{clash, false_of, or_cases, and_intro, and_left, and_right}
use Rattle.drive_sets.specs.Lists.{filter}
use Rattle.drive_sets.specs.Lists.Laws.{no_elem, any_elem, elem_filter}
use Rattle.drive_sets.specs.Masks.{has, single, union, common, minus, subset, drives, Below}
use Rattle.drive_sets.specs.Masks.Laws.{has_union, has_minus, has_bounds, subset_has, subset_lt, meets_has}
use Rattle.drive_sets.specs.Masks.Sizes.{elem_drives}
use Rattle.drive_sets.specs.Masks.OneDrive.{shared_only, shared_part}
use Rattle.survivor_tables.specs.Hitting.{Minimal, critical, search}
use Rattle.hitting_sets.specs.LookAhead.{privates, forbidden, covered, cannot_extend}
use Rattle.survivor_tables.specs.Hitting.Laws.{hits_meets, minimal_word}
use Rattle.survivor_tables.specs.Hitting.Critical.{Private, private_critical, critical_all, not_all_critical}
use Rattle.survivor_tables.specs.Hitting.Minimality.{minimal_critical}
use Rattle.survivor_tables.proofs.Hitting.SearchLaws.{search_minimal}
use Rattle.hitting_sets.specs.LookAhead.Forbidden.{in_all_has, forbidden_by}

-- t is part of a minimal hitting set u
module _ (sets : List ℕ) (t u : ℕ) (below : Below 64 sets) (part : subset t u ≡ true) (min : Minimal sets u) where
  u_lt : u < 2 ^ 64
  u_lt = minimal_word sets u below min

  t_lt : t < 2 ^ 64
  t_lt = subset_lt 64 t u part u_lt

  -- a private set of a drive of t in u: it is private in t too, and u meets it in that drive alone
  module _ (d : ℕ) (i : has d t ≡ true) where
    low : 1 ≤ d
    low = (has_bounds 64 d t t_lt i).0

    high : d ≤ 64
    high = (has_bounds 64 d t t_lt i).1

    own : Private sets u d
    own = critical_all sets u u_lt (minimal_critical sets u u_lt min) d (subset_has d t u part i)

    own_in_t : common own.0 t ≡ single d
    own_in_t = shared_part d low high own.0 u own.2 t t_lt part i

    own_only : (x : ℕ) → has x own.0 ≡ true → has x u ≡ true → has x t ≡ true
    own_only x p q = ap (λ (y : ℕ). has y t) (shared_only d low high own.0 u own.2 x p q) ∙ i

  -- u takes no forbidden drive
  not_forbidden : (x : ℕ) → has x u ≡ true → has x (forbidden sets t (drives t)) ≡ true → ⊥
  unfolding privates
  not_forbidden x i e =
      let w = forbidden_by sets t x (drives t) e in
      let d = w.0 in
      let j = sym (elem_drives d t t_lt) ∙ w.1 in
      let s = (own d j).0 in
      let mine = elem_filter (λ y. eqb (common y t) (single d)) s sets ∙ and_intro (own d j).1 (eq-eqb (common s t) (single d) (own_in_t d j)) in
      clash (own_only d j x (in_all_has x s (privates sets t d) w.2 mine) i) w.3

  -- u has a drive of each set, and it is not forbidden: where t misses a set, the drives outside the bar are not all in
  -- a private set
  not_covered : (d : ℕ) (i : has d t ≡ true) → covered sets t (forbidden sets t (drives t)) (own d i).0 ≡ true → ⊥
  unfolding covered
  not_covered d i h =
      let bar = forbidden sets t (drives t) in
      let p = (own d i).0 in
      let w = any_elem (λ s. subset s (minus (union bar p) t)) sets h in
      let x = meets_has 64 w.0 u (below w.0 w.1) (hits_meets sets u w.0 min.all_met w.1) in
      let both = sym (has_minus x.0 (union bar p) t) ∙ subset_has x.0 w.0 (minus (union bar p) t) w.2 x.1 in
      let within = sym (has_union x.0 bar p) ∙ and_left (has x.0 (union bar p)) (not (has x.0 t)) both in
      clash
      (⊎_elim (λ e. absurd (not_forbidden x.0 x.2 e)) (λ e. own_only d i x.0 e x.2) (or_cases (has x.0 bar) (has x.0 p) within))
      (not-true (has x.0 t) (and_right (has x.0 (union bar p)) (not (has x.0 t)) both))

  pub cannot_extend_none : cannot_extend sets t ≡ true → ⊥
  unfolding cannot_extend
  cannot_extend_none h =
      let open_to : ℕ → Bool = λ s. not (covered sets t (forbidden sets t (drives t)) s) in
      let kept = filter open_to sets in
      let w = not_all_critical kept t t_lt (eqb-false (critical kept t) t (not-true (eqb (critical kept t) t) h)) in
      let d = w.0 in
      let i = w.1 in
      let s = (own d i).0 in
      let stays = false_of (covered sets t (forbidden sets t (drives t)) s) (not_covered d i) in
      clash (private_critical d (low d i) (high d i) kept t t_lt (s, elem_filter open_to s sets ∙ and_intro (own d i).1 (ap not stays), own_in_t d i)) w.2

pub cannot_extend_search : (seen rest : List ℕ) (t : ℕ) → Below 64 (seen ++ rest) → Minimal seen t → cannot_extend (seen ++ rest) t ≡ true → search seen rest t ≡ []
cannot_extend_search seen rest t b min h =
    no_elem (search seen rest t) (λ u e.
    let w = search_minimal seen rest t u b min e in
    cannot_extend_none (seen ++ rest) t u b w.1 w.0 h)
