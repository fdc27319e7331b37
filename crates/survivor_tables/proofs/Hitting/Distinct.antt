-- The search lists nothing twice: what it lists shows where it grew from.
use Rattle.std.specs.Prelude.{◌≡◌, true, not, List, [], ◌∷◌, ◌++◌, ℕ, eqb}
use Rattle.std.proofs.Math.Path.{refl}
use Rattle.std.proofs.Common.{sym, ap, ◌∙◌, subst, eqb-true}
use Rattle.std.proofs.lemmas.Bool.{not-true}
use Rattle.drive_sets.specs.Bools.Laws.{clash, by_test, and_left, and_right, cond_false}
use Rattle.drive_sets.specs.Lists.{any, elem, distinct}
use Rattle.drive_sets.specs.Lists.Laws.{elem_head, elem_tail}
use Rattle.drive_sets.specs.Lists.Distinct.{distinct_append}
use Rattle.drive_sets.specs.Masks.{has, single, union, meets, drives, Below}
use Rattle.drive_sets.specs.Masks.Laws.{has_bounds, meets_not}
use Rattle.drive_sets.specs.Masks.Sizes.{elem_drives, drives_distinct}
use Rattle.drive_sets.specs.Masks.OneDrive.{insert_has, insert_new}
use Rattle.survivor_tables.specs.Hitting.{Minimal, critical, for_each, search, minimals}
use Rattle.survivor_tables.specs.Hitting.Growth.{Grown, met, added, grown_minimal, grown_unique}
use Rattle.survivor_tables.proofs.Hitting.SearchLaws.{for_each_elem, tried, tried_elem, tried_critical, search_met, search_missed, search_grown, search_end, below_passed, below_now, below_next, none_minimal}

-- what is listed from two minimal hitting sets of those seen is listed from one
pub search_unique : (seen rest : List ℕ) (m k u : ℕ) → Below 64 (seen ++ rest) → Minimal seen m → Minimal seen k
    → elem u (search seen rest m) ≡ true → elem u (search seen rest k) ≡ true → m ≡ k
search_unique seen [] m k u b mmin kmin p q = sym (search_end seen m u p) ∙ search_end seen k u q
search_unique seen (s ∷ sets) m k u b mmin kmin p q =
    let now = seen ++ (s ∷ []) in
    let more = below_passed seen s sets b in
    let upto = below_now seen s sets b in
    let lt = below_next seen s sets b in
    let w = search_grown seen s sets m lt u p in
    let v = search_grown seen s sets k lt u q in
    let same =
    search_unique now sets w.0 v.0 u more
    (grown_minimal seen s upto m w.0 mmin w.1) (grown_minimal seen s upto k v.0 kmin v.1) w.2 v.2 in
    grown_unique seen s upto now m k w.0 mmin kmin w.1 (subst (Grown now s k) (sym same) v.1)

-- ---- each of the drives tried

for_each_distinct : (f : ℕ → List ℕ) (m : ℕ) (ds : List ℕ) → distinct ds ≡ true
    → ((d : ℕ) → elem d ds ≡ true → distinct (f (union m (single d))) ≡ true)
    → ((d c u : ℕ) → elem d ds ≡ true → elem c ds ≡ true → elem u (f (union m (single d))) ≡ true → elem u (f (union m (single c))) ≡ true → d ≡ c)
    → distinct (for_each f m ds) ≡ true
unfolding for_each distinct
for_each_distinct f m [] h each apart = refl
for_each_distinct f m (d ∷ ds) h each apart =
    distinct_append (f (union m (single d))) (for_each f m ds) (each d (elem_head d ds))
    (for_each_distinct f m ds (and_right (not (elem d ds)) (distinct ds) h) (λ c i. each c (elem_tail c d ds i))
    (λ c e u i j. apart c e u (elem_tail c d ds i) (elem_tail e d ds j)))
    (λ u p q. let w = for_each_elem f m ds u q in
    clash (ap (λ (x : ℕ). elem x ds) (apart d w.0 u (elem_head d ds) (elem_tail w.0 d ds w.1) p w.2) ∙ w.1)
    (not-true (elem d ds) (and_left (not (elem d ds)) (distinct ds) h)))

tried_distinct : (now sets : List ℕ) (t : ℕ) → (critical now t ≡ t → distinct (search now sets t) ≡ true) → distinct (tried now sets t) ≡ true
unfolding tried distinct
tried_distinct now sets t f =
    by_test (eqb (critical now t) t)
    (λ h. let e = eqb-true (critical now t) t h in ap distinct (tried_critical now sets t e) ∙ f e)
    (λ h. ap distinct (cond_false (search now sets t) [] h))

-- ---- the whole list

pub search_distinct : (seen rest : List ℕ) (m : ℕ) → Below 64 (seen ++ rest) → Minimal seen m → distinct (search seen rest m) ≡ true
search_distinct seen [] m b min = unfold search distinct elem any in refl
search_distinct seen (s ∷ sets) m b min =
    let now = seen ++ (s ∷ []) in
    let more = below_passed seen s sets b in
    let upto = below_now seen s sets b in
    let lt = below_next seen s sets b in
    by_test (meets s m)
    (λ h. ap distinct (search_met seen s sets m h) ∙ search_distinct now sets m more (grown_minimal seen s upto m m min (met h refl)))
    (λ h. let in_s : (d : ℕ) → elem d (drives s) ≡ true → has d s ≡ true = λ d i. sym (elem_drives d s lt) ∙ i in
    let grows : (d : ℕ) → elem d (drives s) ≡ true → critical now (union m (single d)) ≡ union m (single d) → Minimal now (union m (single d)) =
    λ d i a. grown_minimal seen s upto m (union m (single d)) min (added d (in_s d i) h refl a) in
    ap distinct (search_missed seen s sets m h)
    ∙ for_each_distinct (tried now sets) m (drives s) (drives_distinct s)
    (λ d i. tried_distinct now sets (union m (single d)) (λ a. search_distinct now sets (union m (single d)) more (grows d i a)))
    (λ d c u i j p q.
    let x = tried_elem now sets (union m (single d)) u p in
    let y = tried_elem now sets (union m (single c)) u q in
    let db = has_bounds 64 d s lt (in_s d i) in
    let cb = has_bounds 64 c s lt (in_s c j) in
    let same = search_unique now sets (union m (single d)) (union m (single c)) u more (grows d i x.0) (grows c j y.0) x.1 y.1 in
    insert_new c cb.0 cb.1 d m (meets_not d s m h (in_s d i)) (ap (has d) (sym same) ∙ insert_has d db.0 db.1 m)))

pub minimals_distinct : (sets : List ℕ) → Below 64 sets → distinct (minimals sets) ≡ true
unfolding minimals
minimals_distinct sets b = search_distinct [] sets 0 b none_minimal
