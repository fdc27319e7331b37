-- The normal form of sets that are few enough, in a slice with room for so many.
use Rattle.std.specs.Prelude.{◌≡◌, List, ℕ, ◌≤◌, length}
use Rattle.std.proofs.Common.{◌∙◌, arith, le-ltb}
use Rattle.drive_sets.specs.Bools.Laws.{cond_false}
use Rattle.drive_sets.specs.Limits.{max_sets}
use Rattle.drive_sets.specs.Refusals.{yields}
use Rattle.survivor_tables.specs.Order.{normal}
use Rattle.survivor_tables.specs.Order.Normal.{length_normal}
use Rattle.drive_sets.specs.Lent.{fitting}
use Rattle.drive_sets.specs.Lent.Laws.{has_room}
use Rattle.normal_forms.specs.NormalForms.{normal_list}

pub normal_list_fits : (room : ℕ) (sets : List ℕ) → length sets ≤ max_sets → normal_list room sets ≡ fitting 0 room (normal sets)
unfolding normal_list
normal_list_fits room sets h = cond_false _ _ (le-ltb max_sets (length sets) h)

-- as many places as sets are enough
pub normal_list_result : (room : ℕ) (sets : List ℕ) → length sets ≤ max_sets → length sets ≤ room → normal_list room sets ≡ yields (normal sets)
normal_list_result room sets h k = normal_list_fits room sets h ∙ has_room 0 room (normal sets) (omega (arith, length_normal sets))
