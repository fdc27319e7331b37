-- What the reader makes of a listing.
use Rattle.std.specs.Prelude.{◌≡◌, List, [], ℕ, ◌≤◌, length, drop}
use Rattle.std.proofs.Common.{sym, drop_of_length-le}
use Rattle.drive_sets.specs.Refusals.{yields, and_then}
use Rattle.survivor_tables.specs.declared.frames.MaskKind.TheVariants.{FaultGroup}
use Rattle.complete_tables.proofs.Completes.{rest_none}
use Rattle.table_files.specs.Files.{read_listed}
use Rattle.table_files.specs.Files.Laws.{listed_checked}
use Rattle.fault_lists.specs.FaultLists.{fault_list}
use Rattle.fault_files.specs.FaultFiles.{read_faults}
use Rattle.fault_files.specs.FaultFiles.Laws.{list_read, accepted_list}

-- what is listed, with nothing behind it, is the fault list of its groups
pub list_finished : (s : List ℕ) (n : ℕ) (groups : List ℕ) (used : ℕ) → yields (record { n = n; sets = groups; rest = drop used s }) ≡ read_listed FaultGroup s
    → length s ≤ used → read_faults s ≡ and_then (fault_list n groups) (list_read n [])
unfolding read_faults
list_finished s n groups used e none =
    rw (← e, rest_none s used none, accepted_list n groups (drop used s) (listed_checked FaultGroup s (sym e)), drop_of_length-le s none)
