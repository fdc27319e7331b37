-- A walk over the drives 1 to n in which each step makes the calls of one drive: the loops of the closes and of the
-- sends.
use mathlib.Core.Path.{◌≡◌, refl, sym, ap, ◌∙◌, subst}
use mathlib.Core.Bool.{Bool, cond}
use mathlib.Core.List.{List, [], ◌∷◌, ◌++◌, map}
use Prim.Native.Nat.{ℕ, suc, ◌-◌, ◌+◌, ◌≤◌, ◌<◌}
use native.Mathlib.Numerals.{add-one, unary_clauses}
use native.Mathlib.Omega.{arith}
use lib.ListN.{length}
use Rattle.drive_sets.specs.Bools.Laws.{by_test}
use Rattle.drive_sets.specs.Lists.{range, filter}
use Rattle.drive_states.specs.declared.Exchange.{Exchange}
use Rattle.runs.specs.World.{Call, World}
use Rattle.agreement.specs.Document01.{document01, apply_all}
use Rattle.runs.specs.World as worlds
use Rattle.runs.specs.World.Laws.{apply_all_append}
use Rattle.runs.specs.Runs.{joined}
use Rattle.simulated_sends.specs.States.{world_of}

-- the calls of some drives, one after the other
abbrev pub calls_of : (ℕ → List Call) → List ℕ → List Call
calls_of calls ds = joined (map calls ds)

-- the steps of the drives 1 to i have been made
pub record Walking (n : ℕ) (calls : ℕ → List Call) (states all : List Exchange) (i : ℕ) : Type 0 where
  pub up_to : i ≤ n
  pub long : length all ≡ 64
  pub rest : apply_all (world_of n all) (calls_of calls (range (suc i) (n - i))) ≡ apply_all (world_of n states) (calls_of calls (range 1 n))

module _ (n : ℕ) (calls : ℕ → List Call) (states : List Exchange) where
  pub walk_start : length states ≡ 64 → Walking n calls states states 0
  walk_start long = record { up_to = omega arith; long = long; rest = simp unary_clauses refl }

  range_step : (i : ℕ) → i < n → range (suc i) (n - i) ≡ suc i ∷ range (suc (suc i)) (n - suc i)
  unfolding range
  range_step i h = let more : n - i ≡ suc (n - suc i) = omega arith in ap (range (suc i)) more

  pub walk_turn : (all new : List Exchange) (i : ℕ) → Walking n calls states all i → i < n → length new ≡ 64
      → world_of n new ≡ apply_all (world_of n all) (calls (i + 1)) → Walking n calls states new (i + 1)
  unfolding joined
  walk_turn all new i g h long e = subst (Walking n calls states new) (sym (add-one i)) (record {
    up_to = omega (arith, h);
    long = long;
    rest = ap (λ (w : World). apply_all w (calls_of calls (range (suc (suc i)) (n - suc i)))) (e ∙ ap (λ (d : ℕ). apply_all (world_of n all) (calls d)) (add-one i))
        ∙ (sym (apply_all_append document01 (world_of n all) (calls (suc i)) (calls_of calls (range (suc (suc i)) (n - suc i))))
        ∙ (ap (λ (l : List ℕ). apply_all (world_of n all) (calls_of calls l)) (sym (range_step i h)) ∙ g.rest));
  })

  pub walk_end : (all : List Exchange) (i : ℕ) → Walking n calls states all i → n ≤ i → world_of n all ≡ apply_all (world_of n states) (calls_of calls (range 1 n))
  unfolding joined range worlds.apply_all
  walk_end all i g h =
      let none : 0 ≡ n - i = omega arith in
      ap (λ (k : ℕ). apply_all (world_of n all) (calls_of calls (range (suc i) k))) none ∙ g.rest

-- the calls of the drives that pass a test
module _ (p : ℕ → Bool) (calls : ℕ → List Call) where
  abbrev pub calls_if : ℕ → List Call
  calls_if d = cond (p d) (calls d) []

  pub calls_kept : (ds : List ℕ) → calls_of calls_if ds ≡ calls_of calls (filter p ds)
  unfolding joined filter
  calls_kept [] = refl
  calls_kept (d ∷ ds) =
      by_test (p d)
      (λ t. rw t (ap (λ (l : List Call). calls d ++ l) (calls_kept ds)))
      (λ t. rw t (calls_kept ds))

-- one call for each drive
pub calls_single : (call : ℕ → Call) (ds : List ℕ) → calls_of (λ d. call d ∷ []) ds ≡ map call ds
unfolding joined
calls_single call [] = refl
calls_single call (d ∷ ds) = ap (λ (l : List Call). call d ∷ l) (calls_single call ds)
