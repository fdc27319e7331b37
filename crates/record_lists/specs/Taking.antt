-- What a reader of lists of records says of one record, and of a list.
use Rattle.std.specs.Prelude.{◌≡◌, List, ℕ, Option, Some, None, Result, Ok, Err, drop}
use Rattle.std.proofs.Math.Option as steps
use Rattle.drive_sets.specs.declared.Refusal.{Refusal}
use Rattle.drive_sets.specs.Refusals.{Outcome, refused, yields, number, outcome_by}
use Rattle.records.specs.Marks.{width_at}
use Rattle.records.specs.RecordLists.{ListFormat, ReadList, step_of}

module _ {S : Type 0} where
  -- the record at the start of the bytes s, taken into what was read so far: the refusal that it meets, none at EN, which
  -- changes nothing, or how many bytes it has
  abbrev pub Taken : ListFormat S → S → S → List ℕ → Result (Option ℕ) Refusal → Type 0
  Taken f old new s (Err r) = refused (number r) ≡ step_of f old s
  Taken f old new s (Ok None) = (yields steps.none ≡ step_of f old s) × (new ≡ old)
  Taken f old new s (Ok (Some width)) = (yields (steps.some new) ≡ step_of f old s) × (width ≡ width_at s)

  -- what is read of the bytes s, of which so many are taken
  abbrev pub list_read : S → List ℕ → Result ℕ Refusal → Outcome (ReadList S)
  list_read new s r = outcome_by (λ used. record { list = new; rest = drop used s }) r
