-- Fault lists: document 02 (vi). A fault list states which drives can fail together, a survivor table which stay up
-- together; each survivor set is the rest of the frame.
use Rattle.std.specs.Prelude.{Bool, not, ◌&&◌, List, [], ◌∷◌, ◌++◌, ℕ, eqb}
use Rattle.drive_sets.specs.Lists.{any}
use Rattle.drive_sets.specs.Masks.{outside, subset}
use Rattle.drive_sets.specs.Refusals.{Outcome, yields, and_then}
use Rattle.survivor_tables.specs.declared.frames.MaskKind.TheVariants.{FaultGroup}
use Rattle.survivor_tables.specs.Order.{sorted_unless}
use Rattle.survivor_tables.specs.Tables.{within_core_limit, checked_masks, normal_table}
use Rattle.complete_tables.specs.Complete.{Complete, with_cores}
pub mod Rests

-- the rest of the frame for each of the masks, the last first: so the rests of masks that rise, rise (`rests_rising`)
unfoldable pub rests : ℕ → List ℕ → List ℕ
rests n [] = []
rests n (m ∷ masks) = rests n masks ++ (outside n m ∷ [])

-- ---- the normal form: the largest groups, by mask rising

-- g lies within another of the groups
unfoldable pub within_another : List ℕ → ℕ → Bool
within_another groups g = any (λ h. subset g h && not (eqb h g)) groups

unfoldable pub largest : List ℕ → List ℕ
largest groups = sorted_unless (within_another groups) groups

-- ---- the calls given n and groups: 3, 2, 5, then 4 and 34 group by group, then 13

-- the normal table of their survivor sets
unfoldable pub table_from_faults : ℕ → List ℕ → Outcome (List ℕ)
table_from_faults n groups = and_then (checked_masks FaultGroup n groups) (λ faults. within_core_limit (rests n faults))

-- the same with its cores
unfoldable pub complete_from_faults : ℕ → List ℕ → Outcome Complete
complete_from_faults n groups = and_then (table_from_faults n groups) (λ table. yields (with_cores n table))

-- what is given, by the table with its cores
abbrev pub rests_of : Complete → Outcome (List ℕ)
rests_of t = yields (rests t.n t.sets)

-- the fault list itself in normal form
unfoldable pub fault_list : ℕ → List ℕ → Outcome (List ℕ)
fault_list n groups = and_then (table_from_faults n groups) (λ table. yields (largest groups))

-- ---- the call given n and sets: 3, 2, 5, 4, 13

-- the fault list of a table
unfoldable pub faults_from_table : ℕ → List ℕ → Outcome (List ℕ)
faults_from_table n sets = and_then (normal_table n sets) (λ table. yields (largest (rests n table)))
