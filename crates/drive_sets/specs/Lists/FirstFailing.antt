-- The first element that fails a test, by its position: all before it pass, it fails, and there is none exactly if all
-- pass.
use Rattle.std.specs.Prelude.{◌≡◌, Bool, false, cond, ◌↔◌, length, get_or, None, Some}
use Rattle.std.proofs.Math.Path.{refl}
use Rattle.std.proofs.Common.{sym, ap₂, ◌∙◌, arith}
use Rattle.std.proofs.Math.Bool.{true}
use mathlib.Core.List.{List, [], ◌∷◌}
use Prim.Native.Nat.{ℕ, zero, suc, ◌+◌, ◌<◌}
use Rattle.drive_sets.specs.Positions.{Position}
use Rattle.drive_sets.specs.Bools.Laws.{by_test, and_intro, and_left, and_right, cond_true, cond_false}
use Rattle.drive_sets.specs.Positions.Laws.{none_at, same_at}
use Rattle.drive_sets.specs.Lists.{all, first_failing}

module _ (p : ℕ → Bool) where
  pub failing_later : (i x : ℕ) (l : List ℕ) → p x ≡ true → first_failing i p (x ∷ l) ≡ first_failing (i + 1) p l
  unfolding first_failing
  failing_later i x l h = cond_true _ _ h

  pub failing_here : (i x : ℕ) (l : List ℕ) → p x ≡ false → first_failing i p (x ∷ l) ≡ Some i
  unfolding first_failing
  failing_here i x l h = cond_false _ _ h

  -- the element at position k, the list's first being at position i, is the first that fails
  pub record First (i : ℕ) (l : List ℕ) (k : ℕ) : Type 0 where
    pub place : ℕ
    pub at : k ≡ i + place
    pub within : place < length l
    pub before : (j : ℕ) → j < place → p (get_or l j 0) ≡ true
    pub there : p (get_or l place 0) ≡ false

  pub failing_at : (i : ℕ) (l : List ℕ) (k : ℕ) → first_failing i p l ≡ Some k → First i l k
  unfolding first_failing
  failing_at i [] k h = absurd (none_at refl h)
  failing_at i (x ∷ l) k h =
      by_test (p x)
      (λ e. let f = failing_at (i + 1) l k (sym (failing_later i x l e) ∙ h) in
      record {
        place = suc f.place;
        at = omega (arith, f.at);
        within = omega (arith, f.within);
        before = passed e f.before;
        there = f.there;
      })
      (λ e. record {
        place = 0;
        at = omega (arith, same_at (failing_here i x l e) h);
        within = omega arith;
        before = λ j lt. absurd (omega (arith, lt));
        there = e;
      })
    where
      passed : p x ≡ true → {n : ℕ} → ((j : ℕ) → j < n → p (get_or l j 0) ≡ true) → (j : ℕ) → j < suc n → p (get_or (x ∷ l) j 0) ≡ true
      passed e f zero lt = e
      passed e f (suc j) lt = f j (omega arith)

  none_all : (i : ℕ) (l : List ℕ) → first_failing i p l ≡ None → all p l ≡ true
  unfolding all
  none_all i [] h = refl
  none_all i (x ∷ l) h =
      by_test (p x)
      (λ e. and_intro e (none_all (i + 1) l (sym (failing_later i x l e) ∙ h)))
      (λ e. absurd (none_at h (failing_here i x l e)))

  all_none : (i : ℕ) (l : List ℕ) → all p l ≡ true → first_failing i p l ≡ None
  unfolding all first_failing
  all_none i [] h = refl
  all_none i (x ∷ l) h = failing_later i x l (and_left (p x) (all p l) h) ∙ all_none (i + 1) l (and_right (p x) (all p l) h)

  pub failing_none : (i : ℕ) (l : List ℕ) → (first_failing i p l ≡ None) ↔ (all p l ≡ true)
  failing_none i l = (none_all i l, all_none i l)

-- tests with the same answers, place by place
pub failing_same : (p q : ℕ → Bool) (i : ℕ) (l : List ℕ) → ((j : ℕ) → p (get_or l j 0) ≡ q (get_or l j 0)) → first_failing i p l ≡ first_failing i q l
unfolding first_failing
failing_same p q i [] f = refl
failing_same p q i (x ∷ l) f = ap₂ (λ (b : Bool) (later : Position). cond b later (Some i)) (f 0) (failing_same p q (i + 1) l (λ j. f (suc j)))
