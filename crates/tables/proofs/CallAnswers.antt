-- What the calls answer: the first core of an accepted table, and the list of Back.
use Rattle.std.specs.Prelude.{◌≡◌, true, false, List, ℕ, ◌≤◌, ◌<◌, ltb, length, get_or, take}
use Rattle.std.proofs.Common.{sym, ap, ◌∙◌, arith, lt-ltb, le-ltb}
use Rattle.drive_sets.specs.Limits.{max_sets}
use Rattle.drive_sets.specs.Refusals.{Outcome, yields, and_then}
use Rattle.survivor_tables.specs.Hitting.{minimals}
use Rattle.survivor_tables.specs.Order.{by_mask}
use Rattle.survivor_tables.specs.Order.Sort.{length_sort}
use Rattle.survivor_tables.specs.Tables.{chosen, dual, chosen_core}
use Rattle.survivor_tables.proofs.Tables.Laws.{some_core}
use Rattle.set_orders.specs.declared.sorting.Order.TheVariants.{ByMask}
use Rattle.set_orders.specs.Sorting.{precedes}
use Rattle.core_search.specs.Found.{Found}
use Rattle.core_search.specs.Found.Laws.{found_listed}
use Rattle.complete_tables.specs.declared.TableWithCores.{TableWithCores}
use Rattle.complete_tables.specs.Complete.{sets_of}
use Rattle.complete_tables.proofs.Accepts.{Taken}

-- ---- the first core

module _ (n : ℕ) (sets : List ℕ) (t : TableWithCores) (u : Taken n sets t) where
  pub a_core : 0 < length t.cores.items
  a_core = omega (arith, ap length u.list, some_core n (sets_of t.table) u.whole)

  pub first_core : yields (get_or t.cores.items 0 0) ≡ chosen_core n sets
  unfolding chosen_core chosen
  first_core =
      ap (λ (l : List ℕ). yields (get_or l 0 0)) u.list
      ∙ sym (ap (λ (o : Outcome (List ℕ)). and_then o (λ table. yields (chosen table))) u.table)

-- ---- Back

module _ {groups out new : List ℕ} {r : ℕ} (room : length out ≡ max_sets)
    (found : Found (precedes ByMask) groups out new r) where
  pub dual_more : max_sets < r → ltb max_sets (length (dual groups)) ≡ true
  unfolding dual
  dual_more m = lt-ltb max_sets (length (dual groups)) (omega (arith, found.total, length_sort by_mask (minimals groups)))

  pub dual_few : r ≤ max_sets → ltb max_sets (length (dual groups)) ≡ false
  unfolding dual
  dual_few m = le-ltb max_sets (length (dual groups)) (omega (arith, found.total, length_sort by_mask (minimals groups)))

  pub dual_found : r ≤ max_sets → take r new ≡ dual groups
  unfolding dual precedes
  dual_found m = found_listed found (omega arith)
