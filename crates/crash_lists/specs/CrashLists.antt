-- The CR records of a run file as bytes: CR (none is fine), EN with their count. They are one list of records, so
-- reading finds the refusals from left to right.
use Rattle.std.specs.Prelude.{false, List, [], ◌∷◌, ◌++◌, ℕ, length}
use Rattle.drive_sets.specs.Refusals.{Outcome, yields, and_then}
use Rattle.records.specs.declared.Due.TheVariants.{AtRecordOrEnd}
use Rattle.records.specs.declared.Kind.TheVariants.{Crash}
use Rattle.records.specs.Fields.{field_at}
use Rattle.records.specs.RecordLists.{ListFormat}
use Rattle.runs.specs.CrashRecords.{CrashRecord, checked_crash}
pub mod Laws

-- CR: drive, round, sends, 1 byte each; drives rising
unfoldable pub crash_fields : List ℕ → CrashRecord
crash_fields s = record { drive = field_at 2 1 s; round = field_at 3 1 s; sends = field_at 4 1 s }

-- the CR records listed so far, and the drive of the last, 0 where there is none
pub record CrashList : Type 0 where
  pub crashes : List CrashRecord
  pub last : ℕ

abbrev pub no_crash : CrashList
no_crash = record { crashes = []; last = 0 }

-- one CR more: 8, then 9 and 10
unfoldable pub taken_crash : ℕ → ℕ → CrashList → List ℕ → Outcome CrashList
taken_crash n core l s =
    and_then (checked_crash n core l.last (crash_fields s)) (λ c. yields (record { crashes = l.crashes ++ (c ∷ []); last = c.drive }))

-- the records behind the last PR or PW
abbrev pub crash_list : ℕ → ℕ → ListFormat CrashList
crash_list n core = record { due = λ l. AtRecordOrEnd Crash; count = λ l. length l.crashes; complete = λ l s. false; taken = taken_crash n core }
