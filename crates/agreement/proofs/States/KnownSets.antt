-- What is known in a round from the messages accepted so far: what was known when it began, and what undecided senders
-- knew then. One more sender adds what it knew, if it is undecided, and nothing otherwise.
use mathlib.Core.Path.{◌≡◌, refl, sym, ap, ◌∙◌, fun_ext}
use mathlib.Core.Bool.{Bool, true, false, not, ◌&&◌, ◌||◌, or_assoc}
use mathlib.Core.Logic.{⊎_elim}
use mathlib.Core.List.{List}
use Prim.Native.Nat.{ℕ}
use lib.Dec.{eqb}
use borrow.Author.Tests.{eqb-true, eq-eqb}
use Rattle.drive_sets.specs.Bools.{◌⊆◌}
use Rattle.drive_sets.specs.Bools.Laws.{clash, false_of, same_test, and_intro, and_left, and_right, or_left, or_right, or_cases, or_false}
use Rattle.drive_sets.specs.Options.{is_some}
use Rattle.drive_sets.specs.Lists.{range, any, elem}
use Rattle.drive_sets.specs.Lists.Laws.{any_elem, any_intro}
use Rattle.sync_crash.specs.Rounds.{Instance, InFrame, Lawful, reaches, adds, known, after, knows, decision}
use Rattle.sync_crash.proofs.Rounds.Validity.{knows_own, knows_core}
use Rattle.agreement.proofs.States.{known_from}

-- of the elements that pass p, and d besides, some passes q
any_also : (p q : ℕ → Bool) (d : ℕ) (l : List ℕ) → elem d l ≡ true → any (λ y. (p y || eqb y d) && q y) l ≡ (any (λ y. p y && q y) l || q d)
any_also p q d l i =
    same_test (any (λ y. (p y || eqb y d) && q y) l) (any (λ y. p y && q y) l || q d)
    (λ h. let w = any_elem (λ y. (p y || eqb y d) && q y) l h in
    let t = and_right (p w.0 || eqb w.0 d) _ w.2 in
    ⊎_elim
    (λ o. or_left (q d) (any_intro (λ y. p y && q y) l w.0 w.1 (and_intro o t)))
    (λ o. or_right (any (λ y. p y && q y) l) (ap q (sym (eqb-true w.0 d o)) ∙ t))
    (or_cases (p w.0) (eqb w.0 d) (and_left (p w.0 || eqb w.0 d) _ w.2)))
    (λ h. ⊎_elim
    (λ o. let w = any_elem (λ y. p y && q y) l o in
    any_intro (λ y. (p y || eqb y d) && q y) l w.0 w.1
    (and_intro (or_left (eqb w.0 d) (and_left (p w.0) _ w.2)) (and_right (p w.0) _ w.2)))
    (λ o. any_intro (λ y. (p y || eqb y d) && q y) l d i (and_intro (or_right (p d) (eq-eqb d d refl)) o))
    (or_cases (any (λ y. p y && q y) l) (q d) h))

module _ {S : Instance} (L : Lawful S) (k e : ℕ) where
  open S use {n, core}

  -- d is undecided and knew x
  abbrev tells : ℕ → ℕ → Bool
  tells x d = not (is_some (decision S k d)) && knows S k d x

  module _ (from : ℕ → Bool) where
    pub knows_known : knows S k e ⊆ known_from S k e from
    unfolding known_from
    knows_known x h = or_left _ h

    pub known_core : known_from S k e from ⊆ core
    unfolding known_from
    known_core x h =
        ⊎_elim (knows_core L k e x)
        (λ t. let w = any_elem (λ d. from d && tells x d) (range 1 n) t in knows_core L k w.0 x (search (and_right, w.2)))
        (or_cases (knows S k e x) _ h)

    pub known_own : core e ≡ true → known_from S k e from e ≡ true
    known_own i = knows_known e (knows_own L k i)

    -- one more sender
    pub known_with : (d : ℕ) → InFrame S d → (x : ℕ) → known_from S k e (λ y. from y || eqb y d) x ≡ (known_from S k e from x || tells x d)
    unfolding known_from
    known_with d f x =
        ap (λ (b : Bool). knows S k e x || b) (any_also from (tells x) d (range 1 n) f) ∙ sym (or_assoc (knows S k e x) (any (λ y. from y && tells x y) (range 1 n)) (tells x d))

  -- nothing accepted yet
  pub known_none : known_from S k e (λ d. false) ≡ knows S k e
  unfolding known_from
  known_none =
      fun_ext (λ x. ap (λ (b : Bool). knows S k e x || b) (false_of (any (λ d. false) (range 1 n)) (λ h. clash (any_elem (λ d. false) (range 1 n) h).2 refl))
      ∙ or_false (knows S k e x))

  -- all that reach e accepted
  pub known_all : known_from S k e (λ d. reaches S (after S k) k d e) ≡ known S (after S k) k e
  unfolding known_from known adds
  known_all = refl
