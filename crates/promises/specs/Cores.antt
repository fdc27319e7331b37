-- The cores and survivor sets that the calls list, by executions: Junqueira and Marzullo, document 004, Definitions 1
-- and 2. Document 01: "A core is a group that meets every survivor set and of which no smaller part does. Cores are
-- ordered by size, (..) The chosen core is the first." Document 02: "Cores of one size are from now on ordered by the
-- lowest drive that only one of the two holds: the one holding it comes first."
use Rattle.std.specs.Prelude.{◌≡◌, true, List, ◌⊎◌, ◌↔◌, ℕ, ◌^◌, ◌≤◌, ◌<◌}
use Rattle.drive_sets.specs.Lists.{elem, ordered, distinct}
use Rattle.drive_sets.specs.Masks.{size}
use Rattle.drive_sets.specs.Refusals.{yields}
use Rattle.survivor_tables.specs.Executions.{Core, Survivor, Describes}
use Rattle.survivor_tables.specs.Order.{HoldsLowest, normal}
use Rattle.survivor_tables.specs.Order.Strict.{Strict}
use Rattle.survivor_tables.specs.Tables.{core_order, Accepted, chosen_core}
use Rattle.complete_tables.specs.Complete.{Complete, complete_table}
use Rattle.table_files.specs.WithCores.{ReadComplete, read_complete, read_whole_complete}

-- ---- the order of cores

-- one comes before another exactly if it has fewer drives, or as many and holds the lowest drive that only one of the
-- two holds
unfoldable pub OrderOfCores : Type 0
OrderOfCores = (x y : ℕ) → (core_order x y ≡ true) ↔ ((size x < size y) ⊎ ((size x ≡ size y) × ((d : ℕ) × HoldsLowest x y d)))

-- so that of two different ones exactly one comes before the other, and one that comes before a second comes before all
-- that the second comes before
unfoldable pub StrictOrder : Type 0
StrictOrder = Strict core_order

-- ---- what is said of executions

-- what a table with its cores says of executions of which `correct` gives the correct processes
pub record TableSays {Φ : Type 0} (n : ℕ) (correct : Φ → ℕ) (t : Complete) : Type 0 where
  pub drives : t.n ≡ n
  -- the list of cores has exactly the cores, each once and in their order, and is the only such list
  pub cores : (c : ℕ) → (elem c t.cores ≡ true) ↔ Core n correct c
  pub in_order : ordered core_order t.cores ≡ true
  pub once : distinct t.cores ≡ true
  pub only : (l : List ℕ) → ((c : ℕ) → (elem c l ≡ true) ↔ Core n correct c) → ordered core_order l ≡ true → l ≡ t.cores
  -- and its sets are exactly the survivor sets
  pub sets : (s : ℕ) → (elem s t.sets ≡ true) ↔ Survivor correct s

-- the chosen core: a core of the executions, the first in the order, so that no core has fewer drives
pub record FirstCore {Φ : Type 0} (n : ℕ) (correct : Φ → ℕ) (core : ℕ) : Type 0 where
  pub is_core : Core n correct core
  pub first : (c : ℕ) → Core n correct c → (core ≡ c) ⊎ (core_order core c ≡ true)
  pub smallest : (c : ℕ) → Core n correct c → size core ≤ size c

-- ---- of the calls given n and sets

-- for all executions that these sets describe; there are such (`tolerated_described`)
abbrev pub SaysIfDescribed : ℕ → List ℕ → Complete → Type 1
SaysIfDescribed n sets t = (Φ : Type 0) (correct : Φ → ℕ) → Describes n sets correct → TableSays n correct t

-- where the listed sets describe the executions, the normal table does, which asks for less: a set that it drops need
-- not occur
unfoldable pub ListingDescribes : Type 1
ListingDescribes = (n : ℕ) (sets : List ℕ) → Accepted n sets → (Φ : Type 0) (correct : Φ → ℕ) → Describes n sets correct → Describes n (normal sets) correct

-- a table with its cores
unfoldable pub CoresOfCall : Type 1
CoresOfCall = (n : ℕ) (sets : List ℕ) (t : Complete) → complete_table n sets ≡ yields t → SaysIfDescribed n t.sets t

-- the chosen core
unfoldable pub ChosenOfCall : Type 1
ChosenOfCall = (n : ℕ) (sets : List ℕ) (core : ℕ) → chosen_core n sets ≡ yields core
    → (Φ : Type 0) (correct : Φ → ℕ) → Describes n (normal sets) correct → FirstCore n correct core

-- ---- of the readers

-- of a table with more behind it, and of a table and nothing more
unfoldable pub CoresOfRead : Type 1
CoresOfRead = (s : List ℕ) (r : ReadComplete) → read_complete s ≡ yields r → SaysIfDescribed r.table.n r.table.sets r.table

unfoldable pub CoresOfWhole : Type 1
CoresOfWhole = (s : List ℕ) (t : Complete) → read_whole_complete s ≡ yields t → SaysIfDescribed t.n t.sets t

-- ---- of the call, said by survivor sets

-- executions whose survivor sets are exactly the table's sets are described by it
unfoldable pub CoresOfSurvivors : Type 1
CoresOfSurvivors = (n : ℕ) (sets : List ℕ) (t : Complete) → complete_table n sets ≡ yields t
    → (Φ : Type 0) (correct : Φ → ℕ) → ((φ : Φ) → correct φ < 2 ^ n) → ((s : ℕ) → (elem s t.sets ≡ true) ↔ Survivor correct s)
    → TableSays n correct t
