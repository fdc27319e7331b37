-- The search for k positions whose sets share no drive: one step of it, and that every k of the sets share a drive
-- where it finds none. Proved for the sets from some position on and for a mask in the place of all drives, by
-- recursion on k, then on the sets.
use Rattle.std.specs.Prelude.{◌≡◌, true, ◌⊎◌, List, [], ◌∷◌, ℕ, zero, suc, ◌^◌, ◌<◌, eqb, length}
use Rattle.std.proofs.Common.{sym, ◌∙◌, subst, ⊎_elim, arith}
use Rattle.std.proofs.Math.Path.{ap}
use Rattle.std.proofs.Math.Option.{Option, none, some}
use Rattle.std.proofs.lemmas.Bool.{eqb-false}
use Rattle.drive_sets.specs.Bools.Laws.{clash, by_test, and_intro, and_left, and_right, cond_true}
use Rattle.drive_sets.specs.Options.Laws.{by_option, none_some}
use Rattle.drive_sets.specs.Lists.{elem}
use Rattle.drive_sets.specs.Lists.Laws.{elem_head, elem_tail, elem_cases, elem_none, elem_some, some_elem}
use Rattle.drive_sets.specs.Lists.Places.{without_one}
use Rattle.drive_sets.specs.Masks.{has, common}
use Rattle.drive_sets.specs.Masks.Laws.{has_common, has_some, common_lt}
use Rattle.verdict_search.specs.Verdicts.{with_position, first_with, disjoint}
use Rattle.verdict_search.specs.Meaning.{AllFrom}
use Rattle.verdict_search.specs.Sharing.{Shared}

pub shared_more : (m s : ℕ) (l rest : List ℕ) → ((x : ℕ) → elem x l ≡ true → (x ≡ s) ⊎ (elem x rest ≡ true)) → Shared (common m s) rest → Shared m l
shared_more m s l rest others w =
    let both = sym (has_common w.0 m s) ∙ w.1 in
    let d = w.0 in (
      d,
      and_left (has d m) (has d s) both,
      λ x i.
          ⊎_elim (λ q. ap (has d) q ∙ and_right (has d m) (has d s) both) (λ q. w.2 x q) (others x i),
    )

pub shared_fewer : (m s : ℕ) (l : List ℕ) → Shared m (s ∷ l) → Shared (common m s) l
shared_fewer m s l w = (w.0, has_common w.0 m s ∙ and_intro w.1 (w.2 s (elem_head s l)), λ x i. w.2 x (elem_tail x s l i))

-- ---- one step of the search

module _ (f : ℕ → List ℕ → ℕ → Option (List ℕ)) (p s m : ℕ) (sets : List ℕ) where
  pub first_here : {ps : List ℕ} → f p (s ∷ sets) (common m s) ≡ some ps → first_with f p (s ∷ sets) m ≡ some (p ∷ ps)
  unfolding first_with
  first_here e = ap (λ (o : Option (List ℕ)). with_position p o (first_with f (suc p) sets m)) e

  pub first_later : f p (s ∷ sets) (common m s) ≡ none → first_with f p (s ∷ sets) m ≡ first_with f (suc p) sets m
  unfolding first_with
  first_later e = ap (λ (o : Option (List ℕ)). with_position p o (first_with f (suc p) sets m)) e

-- ---- where it finds none, every k of the sets share a drive

-- f finds none for k sets only where every k of them share a drive
abbrev pub NoneOf : ℕ → (ℕ → List ℕ → ℕ → Option (List ℕ)) → Type 0
NoneOf k f = (sets : List ℕ) (p m : ℕ) → m < 2 ^ 64 → f p sets m ≡ none → (l : List ℕ) → length l ≡ k → AllFrom sets l → Shared m l

first_none : (k : ℕ) (f : ℕ → List ℕ → ℕ → Option (List ℕ)) → NoneOf k f → NoneOf (suc k) (first_with f)
first_none k f rest [] p m lt e l len from = let x = some_elem l (omega arith) in absurd (clash (from x.0 x.1) (elem_none x.0))
first_none k f rest (s ∷ sets) p m lt e l len from =
    by_option (f p (s ∷ sets) (common m s))
    (λ here. by_test (elem s l)
    (λ i. let w = without_one s l i in
    shared_more m s l w.0 w.1.others
    (rest (s ∷ sets) p (common m s) (common_lt 64 m s lt) here w.0 (omega (arith, w.1.shorter)) (λ x j. from x (w.1.kept x j))))
    (λ i. first_none k f rest sets (suc p) m lt (sym (first_later f p s m sets here) ∙ e) l len
    (λ x j. ⊎_elim (λ q. absurd (clash (subst (λ (y : ℕ). elem y l ≡ true) q j) i)) (λ q. q) (elem_cases x s sets (from x j)))))
    (λ ps here. absurd (none_some e (first_here f p s m sets here)))

pub disjoint_none : (k : ℕ) → NoneOf k (disjoint k)
unfolding disjoint
disjoint_none zero sets p m lt e l len from =
    by_test (eqb m 0)
    (λ z. absurd (none_some e (cond_true (some []) none z)))
    (λ z. let d = has_some 64 m lt (eqb-false m 0 z) in (d.0, d.1, λ s i. absurd (omega (arith, elem_some s l i))))
disjoint_none (suc k) sets p m lt e l len from = first_none k (disjoint k) (disjoint_none k) sets p m lt e l len from
