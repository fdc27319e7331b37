-- What the result of a call says that gives a list of sets.
use Rattle.std.specs.Prelude.{List, ℕ, Result}
use Rattle.survivor_tables.specs.Lists.{MaskList}
use Rattle.drive_sets.specs.declared.Refusal.{Refusal}
use Rattle.drive_sets.specs.Refusals.{Outcome, outcome_by}

abbrev pub list_outcome : Result MaskList Refusal → Outcome (List ℕ)
list_outcome r = outcome_by (λ l. l.items) r
