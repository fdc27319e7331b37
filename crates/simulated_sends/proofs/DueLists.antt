-- The drives that a message has still to go to, as the iterator has them.
use Rattle.std.specs.Prelude.{Option, None, Some, MatchOption}
use Rattle.std.specs.Iterator.{YieldsFirstBy, MakesProgress, item_count}
use Rattle.std.specs.declared.iter.Iterator.{can_next-default}
use mathlib.Core.Path.{◌≡◌, ap, ap₂, ◌∙◌, subst}
use mathlib.Core.List.{List, [], ◌∷◌, ◌++◌}
use Prim.Native.Nat.{ℕ, suc}
use native.Mathlib.Omega.{arith}
use lib.ListN.{length, take}
use lib.Seq.{take-nil}
use Rattle.drive_sets.specs.declared.Drive.{Drive}
use Rattle.drive_sets.specs.Masks.{drives}
use Rattle.simulated_sends.specs.declared.lists.Due.{Due}
use Rattle.simulated_sends.specs.States.{due_of}

-- a call gave the first drive that was left, or there was none
abbrev pub Gives : Due → Option Drive → Due → Type 0
Gives = YieldsFirstBy (λ (d : Drive). d.0) due_of

-- of the first k of two lists: the first of the one
pub next_of_first : {k left d : ℕ} {xs xs' : List ℕ} (ys : List ℕ) → k ≡ suc left → xs ≡ d ∷ xs' → take k (xs ++ ys) ≡ d ∷ take left (xs' ++ ys)
next_of_first ys e h = ap₂ (λ (j : ℕ) (l : List ℕ). take j (l ++ ys)) e h

-- and where it has none, of the other
pub next_of_second : (k left : ℕ) (xs xs' ys ys' : List ℕ) (r : Option Drive) → k ≡ suc left → xs ≡ [] → xs' ≡ [] → MatchOption r ((ys ≡ []) × (ys' ≡ [])) (λ d. ys ≡ d.0 ∷ ys')
    → MatchOption r ((take k (xs ++ ys) ≡ []) × (take left (xs' ++ ys') ≡ [])) (λ d. take k (xs ++ ys) ≡ d.0 ∷ take left (xs' ++ ys'))
next_of_second k left xs xs' ys ys' None e p q h = (nobody k p h.0, nobody left q h.1)
  where
    nobody : {us vs : List ℕ} (j : ℕ) → us ≡ [] → vs ≡ [] → take j (us ++ vs) ≡ []
    nobody j a b = ap₂ (λ (l m : List ℕ). take j (l ++ m)) a b ∙ take-nil j
next_of_second k left xs xs' ys ys' (Some d) e p q h = rw (p, q) (ap₂ take e h)

pub no_sends : (s : Due) → s.left ≡ 0 → Gives s None s
unfolding due_of
no_sends s e = let none = ap (λ (j : ℕ). take j (drives s.others.0 ++ drives s.listeners.0)) e in (none, none)

-- a call that says so leaves fewer
pub due_progress : (s : Due) (r : Option Drive) (t : Due) → Gives s r t → MakesProgress (can_next-default Due Drive) (item_count due_of) s r t
due_progress s None t h = record { on = λ u. tt; keeps = tt; rests = λ u. tt }
due_progress s (Some d) t h = record { on = λ u. (tt, tt, omega (arith, ap length h)); keeps = tt; rests = λ u. tt }

-- ---- for a loop over them

module _ (s t : Due) {r : Option Drive} where
  pub due_first : {d : Drive} → r ≡ Some d → Gives s r t → due_of s ≡ d.0 ∷ due_of t
  due_first e h = subst (λ (o : Option Drive). Gives s o t) e h

  pub due_last : r ≡ None → Gives s r t → due_of s ≡ []
  due_last e h = (subst (λ (o : Option Drive). Gives s o t) e h).0
