-- What one search finds, put in order.
use mathlib.Core.Path.{◌≡◌, ap, ◌∙◌}
use mathlib.Core.Bool.{Bool}
use mathlib.Core.List.{List}
use Prim.Native.Nat.{ℕ, ◌≤◌, ◌<◌}
use native.Mathlib.Omega.{arith}
use lib.ListN.{length, take}
use Rattle.drive_sets.specs.Filled.{Filled}
use Rattle.drive_sets.specs.Filled.Laws.{filled_over}
use Rattle.survivor_tables.specs.Hitting.{minimals}
use Rattle.survivor_tables.specs.Order.{sort}
use Rattle.set_orders.specs.Sorting.{sort_first}
use Rattle.set_orders.specs.Sorting.Laws.{take_sort_first}
use Rattle.hitting_sets.specs.Fuel.{Searched}
use Rattle.search_attempts.specs.Attempts.{Attempted}

module _ {limited : Bool} {fuel : ℕ} (before : ℕ → ℕ → Bool) (sets out mid : List ℕ) (r left : ℕ) (same : length mid ≡ length out)
    (s : Searched limited fuel out mid 0 r left (minimals sets)) where
  -- more than there is room for
  pub tried_more : length mid < r → Attempted before sets (length out) mid r
  tried_more h = record {
    total = omega (arith, (filled_over out mid 0 r (minimals sets) (omega (arith, s.bound)) s.some).total);
    listed = λ p. absurd (omega arith);
  }

  -- all, put in order
  pub tried_all : (new : List ℕ) → r ≤ length mid → (left ≡ 0 → ⊥) → new ≡ sort_first before r mid → Attempted before sets (length out) new r
  tried_all new h some e = record {
    total = omega (arith, filled.total);
    listed = λ p q. ap (take r) e ∙ (take_sort_first before r mid q h ∙ ap (sort before) (filled.kept p));
  }
    where
      filled : Filled out mid 0 r (minimals sets)
      filled = s.ended (omega arith)
