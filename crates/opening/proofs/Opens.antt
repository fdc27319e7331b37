-- The opening of an exchange: the refusals of the table, then the drive's number.
use Rattle.std.specs.Prelude.{◌≡◌, not, List, ℕ}
use Rattle.std.proofs.Common.{sym}
use Rattle.drive_sets.specs.declared.Refusal.TheVariants.{DriveNumber}
use Rattle.drive_sets.specs.Refusals.{yields, refuse_if, and_then}
use Rattle.drive_sets.specs.Refusals.Laws.{then_then}
use Rattle.survivor_tables.specs.Tables.{chosen, normal_table, chosen_core}
use Rattle.drive_sets.specs.Counts.{is_drive}
use Rattle.agreement.specs.Calls.{initial, opening}

-- the opening by the core that is chosen
pub by_core : (n : ℕ) (sets : List ℕ) (own number : ℕ)
    → opening n sets own number ≡ and_then (chosen_core n sets) (λ core. refuse_if (not (is_drive n own)) DriveNumber (yields (initial n core own number)))
unfolding chosen_core opening
by_core n sets own number = sym (then_then (normal_table n sets) chosen _)
