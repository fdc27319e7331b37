-- What the search for k positions finds is the first: not falling, with sets that share no drive, and before every
-- other such list.
use Rattle.std.specs.Prelude.{◌≡◌, refl, true, ◌&&◌, ◌⊎◌, ltb, length, get_or}
use Rattle.std.proofs.Common.{sym, ap₂, ◌∙◌, subst}
use Rattle.std.proofs.Math.Path.{ap}
use Rattle.std.proofs.Math.Bool.{false}
use Rattle.std.proofs.Math.Logic.{inl, inr, ⊎_elim}
use mathlib.Core.List.{List, [], ◌∷◌, map}
use Rattle.std.proofs.Math.Option.{Option, none, some}
use Prim.Native.Nat.{ℕ, zero, suc, ◌+◌, ◌-◌, ◌^◌, ◌≤◌, ◌<◌}
use native.Mathlib.Omega.{arith}
use Rattle.std.proofs.Math.Dec.{eqb, leb}
use Rattle.std.proofs.lemmas.List.{length-map}
use borrow.Author.Tests.{eqb-true, eqb-false, eq-eqb, leb-true, le-leb, lt-ltb}
use Rattle.drive_sets.specs.Bools.Laws.{clash, by_test, and_intro, and_left, and_right, or_left, or_right, cond_true, cond_false}
use Rattle.drive_sets.specs.Options.Laws.{by_option, none_some, same_some}
use Rattle.drive_sets.specs.Lists.{elem, all, ordered}
use Rattle.drive_sets.specs.Lists.Laws.{elem_head, elem_tail, elem_cases, elem_none, elem_some, no_elem, all_elem, all_intro}
use Rattle.drive_sets.specs.Lists.Places.{get_or_elem, map_elem, map_same}
use Rattle.drive_sets.specs.Masks.{has, common}
use Rattle.drive_sets.specs.Masks.Laws.{has_none, common_lt}
use Rattle.verdict_search.specs.Verdicts.{first_with, disjoint}
use Rattle.verdict_search.proofs.Verdicts.Search.{shared_more, shared_fewer, first_here, first_later, NoneOf, disjoint_none}
use Rattle.verdict_search.specs.Sharing.{Shared}
use Rattle.verdict_search.specs.Meaning.{AllFrom, not_falling, precedes}

-- the set at position q of the sets that start at position p
abbrev pub set_from : ℕ → List ℕ → ℕ → ℕ
set_from p sets q = get_or sets (q - p) 0

-- k positions from p on, not falling, whose sets have no drive of m in common
pub record Names (k p : ℕ) (sets : List ℕ) (m : ℕ) (ps : List ℕ) : Type 0 where
  pub count : length ps ≡ k
  pub within : (q : ℕ) → elem q ps ≡ true → (p ≤ q) × (q < p + length sets)
  pub not_falling_law : not_falling ps ≡ true
  pub share_none : Shared m (map (set_from p sets) ps) → ⊥

pub record First (k p : ℕ) (sets : List ℕ) (m : ℕ) (ps : List ℕ) : Type 0 where
  pub names : Names k p sets m ps
  pub first : (qs : List ℕ) → Names k p sets m qs → (ps ≡ qs) ⊎ (precedes ps qs ≡ true)

pub named_from : (k p : ℕ) (sets : List ℕ) (m : ℕ) (ps : List ℕ) → Names k p sets m ps → AllFrom sets (map (set_from p sets) ps)
named_from k p sets m ps w s i =
    let q = map_elem (set_from p sets) s ps i in
    let b = w.within q.0 q.1 in
    ap (λ (x : ℕ). elem x sets) q.2 ∙ get_or_elem sets (q.0 - p) (omega arith)

module _ (p s : ℕ) (sets : List ℕ) where
  set_here : set_from p (s ∷ sets) p ≡ s
  set_here = ap (λ (i : ℕ). get_or (s ∷ sets) i 0) same
    where
      same : p - p ≡ 0
      same = omega arith

  set_later : (q : ℕ) → p < q → set_from p (s ∷ sets) q ≡ set_from (suc p) sets q
  set_later q h = ap (λ (i : ℕ). get_or (s ∷ sets) i 0) one_more
    where
      one_more : q - p ≡ suc (q - suc p)
      one_more = omega arith

  sets_later : (ps : List ℕ) → ((q : ℕ) → elem q ps ≡ true → p < q) → map (set_from p (s ∷ sets)) ps ≡ map (set_from (suc p) sets) ps
  sets_later ps h = map_same (set_from p (s ∷ sets)) (set_from (suc p) sets) ps (λ q i. set_later q (h q i))

  module _ (k m : ℕ) (ps : List ℕ) where
    names_cons : Names k p (s ∷ sets) (common m s) ps → Names (suc k) p (s ∷ sets) m (p ∷ ps)
    unfolding not_falling ordered
    names_cons w = record {
      count = ap suc w.count;
      within = λ q i. ⊎_elim (λ e. (omega arith, omega arith)) (λ e. w.within q e) (elem_cases q p ps i);
      not_falling_law = and_intro (all_intro (leb p) ps (λ q i. le-leb p q (w.within q i).0)) w.not_falling_law;
      share_none = λ h. w.share_none (subst (λ (x : ℕ). Shared (common m x) (map (set_from p (s ∷ sets)) ps)) set_here (shared_fewer m (set_from p (s ∷ sets) p) _ h));
    }

    names_uncons : Names (suc k) p (s ∷ sets) m (p ∷ ps) → Names k p (s ∷ sets) (common m s) ps
    unfolding not_falling ordered
    names_uncons w = record {
      count = omega (arith, w.count);
      within = λ q i. w.within q (elem_tail q p ps i);
      not_falling_law = and_right (all (leb p) ps) (ordered leb ps) w.not_falling_law;
      share_none = λ h. w.share_none
          (shared_more m s (map (set_from p (s ∷ sets)) (p ∷ ps)) (map (set_from p (s ∷ sets)) ps)
          (λ x i. ⊎_elim (λ e. inl (e ∙ set_here)) (λ e. inr e) (elem_cases x _ _ i)) h);
    }

    names_later : Names k (suc p) sets m ps → Names k p (s ∷ sets) m ps
    names_later w = record {
      count = w.count;
      within = λ q i. let b = w.within q i in (omega arith, omega arith);
      not_falling_law = w.not_falling_law;
      share_none = λ h. w.share_none (subst (Shared m) (sets_later ps (λ q i. (w.within q i).0)) h);
    }

    names_sooner : ((q : ℕ) → elem q ps ≡ true → p < q) → Names k p (s ∷ sets) m ps → Names k (suc p) sets m ps
    names_sooner above w = record {
      count = w.count;
      within = λ q i. let b = w.within q i in (above q i, omega arith);
      not_falling_law = w.not_falling_law;
      share_none = λ h. w.share_none (subst (Shared m) (sym (sets_later ps above)) h);
    }

-- ---- the order of lists of positions

precedes_here : (p q : ℕ) (ps qs : List ℕ) → p < q → precedes (p ∷ ps) (q ∷ qs) ≡ true
unfolding precedes
precedes_here p q ps qs h = or_left (eqb p q && precedes ps qs) (lt-ltb p q h)

precedes_later : (p q : ℕ) (ps qs : List ℕ) → p ≡ q → precedes ps qs ≡ true → precedes (p ∷ ps) (q ∷ qs) ≡ true
unfolding precedes
precedes_later p q ps qs e h = or_right (ltb p q) (and_intro (eq-eqb p q e) h)

-- ---- the first position, here or later

module _ (k p s : ℕ) (sets : List ℕ) (m : ℕ) (ps : List ℕ) where
  found_here : First k p (s ∷ sets) (common m s) ps → First (suc k) p (s ∷ sets) m (p ∷ ps)
  found_here w = record { names = names_cons p s sets k m ps w.names; first = other }
    where
      other : (qs : List ℕ) → Names (suc k) p (s ∷ sets) m qs → (p ∷ ps ≡ qs) ⊎ (precedes (p ∷ ps) qs ≡ true)
      other [] n = absurd (omega (arith, n.count))
      other (q ∷ qs) n =
          by_test (eqb p q)
          (λ e. let same = eqb-true p q e in
          ⊎_elim (λ h. inl (ap₂ (λ (x : ℕ) (l : List ℕ). x ∷ l) same h)) (λ h. inr (precedes_later p q ps qs same h))
          (w.first qs (names_uncons p s sets k m qs (subst (λ (x : ℕ). Names (suc k) p (s ∷ sets) m (x ∷ qs)) (sym same) n))))
          (λ e. inr (precedes_here p q ps qs (let b = n.within q (elem_head q qs) in let differ = eqb-false p q e in omega arith)))

  found_later : ((qs : List ℕ) → Names k p (s ∷ sets) (common m s) qs → ⊥) → First (suc k) (suc p) sets m ps → First (suc k) p (s ∷ sets) m ps
  unfolding not_falling ordered
  found_later never w = record { names = names_later p s sets (suc k) m ps w.names; first = other }
    where
      other : (qs : List ℕ) → Names (suc k) p (s ∷ sets) m qs → (ps ≡ qs) ⊎ (precedes ps qs ≡ true)
      other [] n = absurd (omega (arith, n.count))
      other (q ∷ qs) n =
          by_test (eqb p q)
          (λ e. absurd (never qs (names_uncons p s sets k m qs (subst (λ (x : ℕ). Names (suc k) p (s ∷ sets) m (x ∷ qs)) (sym (eqb-true p q e)) n))))
          (λ e. w.first (q ∷ qs) (names_sooner p s sets (suc k) m (q ∷ qs) (above e) n))
        where
          first_above : eqb p q ≡ false → p < q
          first_above e = let b = n.within q (elem_head q qs) in let differ = eqb-false p q e in omega arith

          above : eqb p q ≡ false → (x : ℕ) → elem x (q ∷ qs) ≡ true → p < x
          above e x i =
              ⊎_elim (λ h. omega (arith, first_above e))
              (λ h. omega (arith, first_above e, leb-true q x (all_elem (leb q) qs x (and_left (all (leb q) qs) (ordered leb qs) n.not_falling_law) h)))
              (elem_cases x q qs i)

-- ---- the search

-- what f finds for k sets is the first
abbrev FirstOf : ℕ → (ℕ → List ℕ → ℕ → Option (List ℕ)) → Type 0
FirstOf k f = (sets : List ℕ) (p m : ℕ) (ps : List ℕ) → m < 2 ^ 64 → f p sets m ≡ some ps → First k p sets m ps

first_some_law : (k : ℕ) (f : ℕ → List ℕ → ℕ → Option (List ℕ)) → NoneOf k f → FirstOf k f → FirstOf (suc k) (first_with f)
unfolding first_with
first_some_law k f nones firsts [] p m ps lt e = absurd (none_some refl e)
first_some_law k f nones firsts (s ∷ sets) p m ps lt e =
    by_option (f p (s ∷ sets) (common m s))
    (λ here. found_later k p s sets m ps
    (λ qs n. n.share_none
    (nones (s ∷ sets) p (common m s) (common_lt 64 m s lt) here (map (set_from p (s ∷ sets)) qs) (length-map qs (set_from p (s ∷ sets)) ∙ n.count) (named_from k p (s ∷ sets) (common m s) qs n)))
    (first_some_law k f nones firsts sets (suc p) m ps lt (sym (first_later f p s m sets here) ∙ e)))
    (λ qs here. subst (First (suc k) p (s ∷ sets) m) (same_some (first_here f p s m sets here) e)
    (found_here k p s sets m qs (firsts (s ∷ sets) p (common m s) qs (common_lt 64 m s lt) here)))

-- no position is asked for, and m is empty
first_of_none : (p : ℕ) (sets : List ℕ) (m : ℕ) → m ≡ 0 → First 0 p sets m []
unfolding not_falling ordered
first_of_none p sets m z = record {
  names = record {
    count = refl;
    within = λ q i. absurd (clash i (elem_none q));
    not_falling_law = refl;
    share_none = λ w. clash w.1 (ap (has w.0) z ∙ has_none w.0);
  };
  first = λ qs n. inl (sym (no_elem qs (λ x i. omega (arith, elem_some x qs i, n.count))));
}

pub disjoint_first : (k : ℕ) → FirstOf k (disjoint k)
unfolding disjoint
disjoint_first zero sets p m ps lt e =
    by_test (eqb m 0)
    (λ z. subst (First 0 p sets m) (same_some (cond_true (some []) none z) e) (first_of_none p sets m (eqb-true m 0 z)))
    (λ z. absurd (none_some (cond_false (some []) none z) e))
disjoint_first (suc k) sets p m ps lt e = first_some_law k (disjoint k) (disjoint_none k) (disjoint_first k) sets p m ps lt e
