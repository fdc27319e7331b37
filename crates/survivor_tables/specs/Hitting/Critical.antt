-- The drives of m that have a private set: which they are, and when they are all of m.
use Rattle.std.specs.Prelude.{◌≡◌, Bool, true, false, ◌||◌, List, [], ◌∷◌, ℕ, ◌^◌, ◌≤◌, ◌<◌, eqb}
use Rattle.std.proofs.Common.{sym, ap, ap₂, ◌∙◌, pow_pos, eqb-true, eq-eqb, ne_eqb}
use Rattle.std.proofs.lemmas.Bool.{eqb-false}
use Rattle.drive_sets.specs.Bools.Laws.{by_test, false_of, cond_true, cond_false}
use Rattle.drive_sets.specs.Lists.{any, elem}
use Rattle.drive_sets.specs.Lists.Laws.{any_elem, any_intro}
use Rattle.drive_sets.specs.Masks.{has, single, union, common, subset, size}
use Rattle.drive_sets.specs.Masks.Laws.{has_none, has_union, has_bounds, common_lt_right, union_lt, has_subset, subset_antisym, subset_not}
use Rattle.drive_sets.specs.Masks.Sizes.{size_single}
use Rattle.drive_sets.specs.Masks.OneDrive.{has_lone, shared_has}
use Rattle.survivor_tables.specs.Hitting.{critical}

-- one of the sets is private to drive d of m: it meets m in d alone
abbrev pub Private : List ℕ → ℕ → ℕ → Type 0
Private sets m d = (s : ℕ) × (elem s sets ≡ true) × (common s m ≡ single d)

pub critical_lt : (n : ℕ) (sets : List ℕ) (m : ℕ) → m < 2 ^ n → critical sets m < 2 ^ n
unfolding critical
critical_lt n [] m h = pow_pos n
critical_lt n (s ∷ sets) m h =
    by_test (eqb (size (common s m)) 1)
    (λ e. rw e (union_lt n (common s m) (critical sets m) (common_lt_right n s m h) (critical_lt n sets m h)))
    (λ e. rw e (critical_lt n sets m h))

pub has_critical : (d : ℕ) → 1 ≤ d → d ≤ 64 → (sets : List ℕ) (m : ℕ) → m < 2 ^ 64 → has d (critical sets m) ≡ any (λ s. eqb (common s m) (single d)) sets
unfolding critical any
has_critical d low high [] m h = has_none d
has_critical d low high (s ∷ sets) m h =
    let rest = has_critical d low high sets m h in
    by_test (eqb (size (common s m)) 1)
    (λ e. ap (has d) (cond_true (union (common s m) (critical sets m)) (critical sets m) e)
    ∙ (has_union d (common s m) (critical sets m)
    ∙ ap₂ ◌||◌ (has_lone d low high (common s m) (common_lt_right 64 s m h) (eqb-true (size (common s m)) 1 e)) rest))
    (λ e. ap (has d) (cond_false (union (common s m) (critical sets m)) (critical sets m) e)
    ∙ (rest
    ∙ sym (ap (λ (b : Bool). b || any (λ s. eqb (common s m) (single d)) sets)
    (ne_eqb (common s m) (single d) (λ q. eqb-false (size (common s m)) 1 e (ap size q ∙ size_single d low high))))))

pub private_critical : (d : ℕ) → 1 ≤ d → d ≤ 64 → (sets : List ℕ) (m : ℕ) → m < 2 ^ 64 → Private sets m d → has d (critical sets m) ≡ true
private_critical d low high sets m h w =
    has_critical d low high sets m h ∙ any_intro (λ s. eqb (common s m) (single d)) sets w.0 w.1 (eq-eqb (common w.0 m) (single d) w.2)

pub critical_private : (d : ℕ) (sets : List ℕ) (m : ℕ) → m < 2 ^ 64 → has d (critical sets m) ≡ true → Private sets m d
critical_private d sets m h e =
    let b = has_bounds 64 d (critical sets m) (critical_lt 64 sets m h) e in
    let w = any_elem (λ s. eqb (common s m) (single d)) sets (sym (has_critical d b.0 b.1 sets m h) ∙ e) in
    (w.0, w.1, eqb-true (common w.0 m) (single d) w.2)

pub critical_subset : (sets : List ℕ) (m : ℕ) → m < 2 ^ 64 → subset (critical sets m) m ≡ true
critical_subset sets m h =
    has_subset 64 (critical sets m) m (critical_lt 64 sets m h) (λ d e.
    let b = has_bounds 64 d (critical sets m) (critical_lt 64 sets m h) e in
    let w = critical_private d sets m h e in
    (shared_has d b.0 b.1 w.0 m w.2).1)

-- ---- every drive of m has a private set, or one has none

pub all_critical : (sets : List ℕ) (m : ℕ) → m < 2 ^ 64 → ((d : ℕ) → has d m ≡ true → Private sets m d) → critical sets m ≡ m
all_critical sets m h f =
    subset_antisym (critical sets m) m (critical_subset sets m h)
    (has_subset 64 m (critical sets m) h (λ d e. let b = has_bounds 64 d m h e in private_critical d b.0 b.1 sets m h (f d e)))

pub critical_all : (sets : List ℕ) (m : ℕ) → m < 2 ^ 64 → critical sets m ≡ m → (d : ℕ) → has d m ≡ true → Private sets m d
critical_all sets m h e d i = critical_private d sets m h (ap (has d) e ∙ i)

pub not_all_critical : (sets : List ℕ) (m : ℕ) → m < 2 ^ 64 → (critical sets m ≡ m → ⊥) → (d : ℕ) × (has d m ≡ true) × (has d (critical sets m) ≡ false)
not_all_critical sets m h ne =
    subset_not 64 m (critical sets m) h (false_of (subset m (critical sets m)) (λ e. ne (subset_antisym (critical sets m) m (critical_subset sets m h) e)))
