-- What the result of the reader of CR records says. With it a contract is one equation with the list that is read.
use Rattle.std.specs.Prelude.{List, ℕ, drop, Result}
use Rattle.drive_sets.specs.declared.Refusal.{Refusal}
use Rattle.drive_sets.specs.Refusals.{Outcome, outcome_by}
use Rattle.records.specs.RecordLists.{ReadList}
use Rattle.drive_crashes.specs.Crashes.{crashes_in}
use Rattle.crash_lists.specs.declared.CrashesRead.{CrashesRead}
use Rattle.crash_lists.specs.CrashLists.{CrashList}

-- of the reader of the bytes s
unfoldable pub crashes_outcome : Result CrashesRead Refusal → List ℕ → Outcome (ReadList CrashList)
crashes_outcome r s =
    outcome_by (λ (c : CrashesRead). record { list = record { crashes = crashes_in c.crashes; last = c.last.0 }; rest = drop c.used s }) r
