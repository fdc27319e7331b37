-- The smallest pattern number of the drives of a mask, drive by drive from the lowest.
use mathlib.Core.Path.{◌≡◌, refl, sym, ap, ◌∙◌}
use mathlib.Core.Option.{Option, none, some}
use Prim.Native.Nat.{ℕ, min}
use native.Mathlib.Omega.{arith}
use Rattle.drive_sets.specs.Lists.{smaller, smallest}
use Rattle.drive_sets.specs.Masks.{drives}
use Rattle.drive_sets.specs.Loops.Drives.{Taken, taken_drives, taken_lt, Walk, walk_turn, walk_end}
use Rattle.drive_states.specs.declared.Decision.TheVariants.{Decided}
use Rattle.agreement.specs.Calls.{decision_on}

smaller_twice : (a b : ℕ) (o : Option ℕ) → smaller a (some (smaller b o)) ≡ smaller (min a b) o
unfolding smaller
smaller_twice a b none = refl
smaller_twice a b (some c) = omega arith

module _ (f : ℕ → ℕ) where
  -- the drives of m are left, and best is the smallest of those before
  abbrev pub Least : ℕ → ℕ → ℕ → Type 0
  Least known best m = Walk (smallest f (drives known)) (λ l. some (smaller best (smallest f l))) m

  pub least_start : {m d m' : ℕ} → Taken m d m' → Least m (f d) m'
  unfolding smallest
  least_start t = record { word = taken_lt t 64 t.word; rest = sym (ap (smallest f) (taken_drives t)) }

  pub least_turn : {d m' : ℕ} (known best m best' : ℕ) → Least known best m → Taken m d m' → best' ≡ min best (f d) → Least known best' m'
  unfolding smallest
  least_turn {d} {m'} known best m best' w t e =
      walk_turn w t (λ l. some (smaller best' (smallest f l)))
      (ap (λ (n : ℕ). some n) (smaller_twice best (f d) (smallest f (drives m')) ∙ ap (λ (n : ℕ). smaller n (smallest f (drives m'))) (sym e)))

  pub least_end : (known best m : ℕ) → Least known best m → m ≡ 0 → Decided (record { 0 = best }) ≡ decision_on (smallest f (drives known))
  unfolding decision_on smaller smallest
  least_end known best m w z = ap decision_on (walk_end w z)
