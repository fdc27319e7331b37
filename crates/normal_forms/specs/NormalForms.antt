-- The normal form in a lent slice.
use Rattle.std.specs.Prelude.{◌≡◌, List, ℕ, ◌≤◌, ltb, length, take}
use Rattle.drive_sets.specs.Limits.{max_sets}
use Rattle.drive_sets.specs.declared.Refusal.TheVariants.{TooManySets}
use Rattle.drive_sets.specs.Refusals.{Outcome, refuse_if}
use Rattle.survivor_tables.specs.Order.{normal}
use Rattle.drive_sets.specs.Lent.{fitting}
pub mod Laws

-- 5 for more than 128 sets, then 14 where the normal form has more sets than there are places
unfoldable pub normal_list : ℕ → List ℕ → Outcome (List ℕ)
normal_list room sets = refuse_if (ltb max_sets (length sets)) TooManySets (fitting 0 room (normal sets))
