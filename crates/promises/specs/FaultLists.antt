-- Fault lists and survivor tables, which say the same in two ways. Document 02 (vi): "Each survivor set is the rest of
-- the frame. We convert both ways; the list written holds the largest fault groups, by mask rising. (..) Converting
-- there and back gives the normal form of what came in, a fault list's being its largest groups."
use Rattle.std.specs.Prelude.{◌≡◌, true, false, List, [], ◌↔◌, ℕ, take, drop, Result}
use Rattle.drive_sets.specs.declared.Refusal.{Refusal}
use Rattle.drive_sets.specs.Lists.{elem, ordered}
use Rattle.drive_sets.specs.Masks.{outside, subset}
use Rattle.drive_sets.specs.Refusals.{yields, and_then, outcome}
use Rattle.lent_bytes.specs.LentBuffers.{WrittenIfRoom}
use Rattle.survivor_tables.specs.Order.{by_mask}
use Rattle.survivor_tables.specs.Tables.{normal_table}
use Rattle.complete_tables.specs.Complete.{Complete}
use Rattle.table_files.specs.Files.{ReadTable, read_whole}
use Rattle.fault_lists.specs.FaultLists.{rests, table_from_faults, complete_from_faults, fault_list, faults_from_table}
use Rattle.fault_lists.specs.FailureModels.{FailProne, CoreFor, SurvivorFor, CanFail, RestHolds, FailsAs}
use Rattle.fault_files.specs.FaultFiles.{read_faults, write_faults, fault_bytes}
use Rattle.convert_files.specs.ConvertFiles.{is_fault_list, convert_file, normal_file}
use Rattle.promises.specs.Cores.{TableSays}

-- ---- there and back, for every n and every groups, sets or bytes: a refusal of the first way is one of both

unfoldable pub FaultsThereAndBack : Type 0
FaultsThereAndBack = (n : ℕ) (groups : List ℕ) → and_then (table_from_faults n groups) (faults_from_table n) ≡ fault_list n groups

unfoldable pub TablesThereAndBack : Type 0
TablesThereAndBack = (n : ℕ) (sets : List ℕ) → and_then (faults_from_table n sets) (table_from_faults n) ≡ normal_table n sets

unfoldable pub FilesThereAndBack : Type 0
FilesThereAndBack = (s : List ℕ) → and_then (convert_file s) convert_file ≡ normal_file s

-- ---- the file that is made is of the other kind, and reads back as the table of the fault list that was read, or as
-- the fault list of the table

unfoldable pub FaultsConverted : Type 0
FaultsConverted = (s : List ℕ) (l : ReadTable) → is_fault_list s ≡ true → read_faults s ≡ yields l
    → (table file : List ℕ) × (table_from_faults l.n l.sets ≡ yields table) × (convert_file s ≡ yields file)
    × (is_fault_list file ≡ false) × (read_whole file ≡ yields (record { n = l.n; sets = table; rest = [] }))

unfoldable pub TablesConverted : Type 0
TablesConverted = (s : List ℕ) (t : ReadTable) → is_fault_list s ≡ false → read_whole s ≡ yields t
    → (groups file : List ℕ) × (faults_from_table t.n t.sets ≡ yields groups) × (convert_file s ≡ yields file)
    × (is_fault_list file ≡ true) × (read_faults file ≡ yields (record { n = t.n; sets = groups; rest = [] }))

-- ---- the largest fault groups, by mask rising

-- the list has exactly those of the groups that no other holds, each once
pub record LargestOf (groups list : List ℕ) : Type 0 where
  pub exactly : (g : ℕ) → (elem g list ≡ true) ↔ ((elem g groups ≡ true) × ((h : ℕ) → elem h groups ≡ true → subset g h ≡ true → h ≡ g))
  pub rising : ordered by_mask list ≡ true

-- of a fault list, and of a table, whose groups are the rests of its sets
unfoldable pub LargestOfFaults : Type 0
LargestOfFaults = (n : ℕ) (groups list : List ℕ) → fault_list n groups ≡ yields list → LargestOf groups list

unfoldable pub LargestOfTable : Type 0
LargestOfTable = (n : ℕ) (sets list : List ℕ) → faults_from_table n sets ≡ yields list → LargestOf (rests n sets) list

-- ---- read back as written

-- what the writer wrote of n and groups reads back as the fault list in normal form
unfoldable pub WrittenFaultsReadBack : Type 0
WrittenFaultsReadBack = (n : ℕ) (groups : List ℕ) (start : ℕ) (old new : List ℕ) (r : Result ℕ Refusal) (size : ℕ)
    → WrittenIfRoom (write_faults n groups) start old new r → outcome r ≡ yields size
    → (list : List ℕ) × (fault_list n groups ≡ yields list) × (read_faults (take size (drop start new)) ≡ yields (record { n = n; sets = list; rest = [] }))

-- a fault list that was read meets no refusal of the writer's but 14, and is written as it was read
unfoldable pub ReadFaultsWritten : Type 0
ReadFaultsWritten = (s : List ℕ) (t : ReadTable) → read_faults s ≡ yields t → write_faults t.n t.sets ≡ yields (fault_bytes t.n t.sets)

-- ---- the fail-prone form of document 002, and that it is equivalent

-- the fault list in normal form is the fail-prone system of the sets that can fail together
unfoldable pub FaultsFailProne : Type 0
FaultsFailProne = (n : ℕ) (groups list : List ℕ) → fault_list n groups ≡ yields list → FailProne (CanFail groups) list

-- so is that of a table, of the sets whose rest holds a survivor set
unfoldable pub TablesFailProne : Type 0
TablesFailProne = (n : ℕ) (sets list : List ℕ) → faults_from_table n sets ≡ yields list → FailProne (RestHolds n sets) list

-- some drives can fail together exactly if the rest of the frame holds a survivor set: of the table of a fault list,
-- and of the fault list of a table; and the normal form changes nothing
unfoldable pub FaultsSameModel : Type 0
FaultsSameModel = (n : ℕ) (groups table : List ℕ) → table_from_faults n groups ≡ yields table → (f : ℕ) → CanFail groups f ↔ RestHolds n table f

unfoldable pub TablesSameModel : Type 0
TablesSameModel = (n : ℕ) (sets list : List ℕ) → faults_from_table n sets ≡ yields list → (f : ℕ) → CanFail list f ↔ RestHolds n sets f

unfoldable pub NormalSameModel : Type 0
NormalSameModel = (n : ℕ) (groups list : List ℕ) → fault_list n groups ≡ yields list → (f : ℕ) → CanFail groups f ↔ CanFail list f

-- the cores of the table are the cores of the sets that can fail, by document 002's Definition 4
unfoldable pub CoresOfModel : Type 0
CoresOfModel = (n : ℕ) (groups : List ℕ) (t : Complete) → complete_from_faults n groups ≡ yields t → (c : ℕ) → (elem c t.cores ≡ true) ↔ CoreFor n (CanFail groups) c

-- and its sets are the survivors of those cores, by Definition 5
unfoldable pub SurvivorsOfModel : Type 0
SurvivorsOfModel = (n : ℕ) (groups : List ℕ) (t : Complete) → complete_from_faults n groups ≡ yields t → (s : ℕ) → (elem s t.sets ≡ true) ↔ SurvivorFor n t.cores s

-- where the listed groups tell of the executions, the list in normal form does, which asks for less: a group that it
-- drops need not fail as a whole
unfoldable pub LargestTell : Type 1
LargestTell = (n : ℕ) (groups list : List ℕ) → fault_list n groups ≡ yields list → (Φ : Type 0) (faulty : Φ → ℕ) → FailsAs n groups faulty → FailsAs n list faulty

-- and the table with its cores says of the executions that the list tells of what it says of those that a table
-- describes: its sets are their survivor sets, and its cores their cores
unfoldable pub CoresOfFaults : Type 1
CoresOfFaults = (n : ℕ) (groups list : List ℕ) (t : Complete) → fault_list n groups ≡ yields list → complete_from_faults n groups ≡ yields t
    → (Φ : Type 0) (faulty : Φ → ℕ) → FailsAs n list faulty → TableSays n (λ φ. outside n (faulty φ)) t
