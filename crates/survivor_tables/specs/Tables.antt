-- Survivor tables, their cores and the way back, and the calls that are given n and sets. A frame is a system of n
-- drives; a survivor set is a set of drives that may be the ones that stay up; a core is a minimal hitting set of the
-- survivor sets (Junqueira and Marzullo).
use Rattle.std.specs.Prelude.{◌≡◌, Bool, true, false, not, ◌&&◌, List, [], ◌∷◌, ℕ, ◌≤◌, eqb, leb, ltb, length, get_or}
use Rattle.drive_sets.specs.Positions.{Position}
use Rattle.drive_sets.specs.declared.Refusal.TheVariants.{WrongMark, FrameSize, BadSet, TooManySets, TooManyCores, AllDrives}
use Rattle.drive_sets.specs.Lists.{all, elem}
use Rattle.drive_sets.specs.Masks.{full, subset}
use Rattle.drive_sets.specs.Refusals.{Outcome, yields, refuse_if, and_then}
use Rattle.survivor_tables.specs.declared.frames.MaskKind.{MaskKind}
use Rattle.survivor_tables.specs.declared.frames.MaskKind.TheVariants.{SurvivorSet, FaultGroup}
use Rattle.survivor_tables.specs.Hitting.{first_missed, minimals}
use Rattle.survivor_tables.specs.Order.{by_mask, by_size, sort, normal}
use Rattle.drive_sets.specs.Limits.{max_drives, max_sets, max_cores}
pub mod Numbered

-- a frame has 1 to 64 drives
unfoldable pub is_frame : ℕ → Bool
is_frame n = leb 1 n && leb n max_drives

-- a set of the frame's drives, not empty
unfoldable pub is_set : ℕ → ℕ → Bool
is_set n s = not (eqb s 0) && subset s (full n)

unfoldable pub is_empty : List ℕ → Bool
is_empty [] = true
is_empty (x ∷ l) = false

-- the order of the cores: by size, then by the lowest drive that only one of the two holds
abbrev pub core_order : ℕ → ℕ → Bool
core_order = by_size

-- the cores in their order; the first is the chosen one
unfoldable pub cores : List ℕ → List ℕ
cores sets = sort core_order (minimals sets)

unfoldable pub chosen : List ℕ → ℕ
chosen sets = get_or (cores sets) 0 0

-- Back, the dual hypergraph: the smallest groups that meet each of the groups, in the normal table's order
unfoldable pub dual : List ℕ → List ℕ
dual groups = sort by_mask (minimals groups)

-- the normal table, where it has at most 1024 cores
unfoldable pub within_core_limit : List ℕ → Outcome (List ℕ)
within_core_limit sets = refuse_if (ltb max_cores (length (cores (normal sets)))) TooManyCores (yields (normal sets))

-- ---- a list of masks: survivor sets, or fault groups, each a set of drives that can fail together

-- what one mask meets, and else the mask: a survivor set that is empty or has a bit above n meets 4; a fault group may
-- be empty, one with a bit above n meets 4, and one of all n drives 34
unfoldable pub checked_mask : MaskKind → ℕ → ℕ → Outcome ℕ
checked_mask SurvivorSet n m = refuse_if (not (is_set n m)) BadSet (yields m)
checked_mask FaultGroup n m = refuse_if (not (subset m (full n))) BadSet (refuse_if (eqb m (full n)) AllDrives (yields m))

-- the first refusal that one of the masks meets, mask by mask, and else what comes next
module _ {A : Type 0} where
  unfoldable pub each_mask : MaskKind → ℕ → List ℕ → Outcome A → Outcome A
  each_mask kind n [] next = next
  each_mask kind n (m ∷ masks) next = and_then (checked_mask kind n m) (λ good. each_mask kind n masks next)

-- what n and masks meet before the cores are looked for: 3, 2, 5, then mask by mask; the masks where they meet nothing
unfoldable pub checked_masks : MaskKind → ℕ → List ℕ → Outcome (List ℕ)
checked_masks kind n masks =
    refuse_if (not (is_frame n)) FrameSize
    (refuse_if (is_empty masks) WrongMark
    (refuse_if (ltb max_sets (length masks)) TooManySets
    (each_mask kind n masks (yields masks))))

-- ---- the calls given n and sets: 3, 2, 5, then 4 set by set, then 13

abbrev pub checked_sets : ℕ → List ℕ → Outcome (List ℕ)
checked_sets = checked_masks SurvivorSet

-- the normal table
unfoldable pub normal_table : ℕ → List ℕ → Outcome (List ℕ)
unfolding checked_mask each_mask checked_masks
normal_table n sets = and_then (checked_sets n sets) within_core_limit

-- n and sets that meet no refusal
pub record Accepted (n : ℕ) (sets : List ℕ) : Type 0 where
  pub low : 1 ≤ n
  pub high : n ≤ max_drives
  pub some : 1 ≤ length sets
  pub most : length sets ≤ max_sets
  pub good : (s : ℕ) → elem s sets ≡ true → is_set n s ≡ true
  pub few_cores : length (cores (normal sets)) ≤ max_cores

unfoldable pub core_list : ℕ → List ℕ → Outcome (List ℕ)
core_list n sets = and_then (normal_table n sets) (λ table. yields (cores table))

unfoldable pub chosen_core : ℕ → List ℕ → Outcome ℕ
chosen_core n sets = and_then (normal_table n sets) (λ table. yields (chosen table))

-- the first set of the normal table that these drives miss, by its position, and none exactly where they meet them all.
-- A group that is no set of the frame meets 4, after the table's own refusals
unfoldable pub missed_set : ℕ → List ℕ → ℕ → Outcome Position
missed_set n sets group =
    and_then (normal_table n sets) (λ table. refuse_if (not (is_set n group)) BadSet (yields (first_missed table group)))

-- Back: 3, 13 for no groups or more than 1024, 4, then 5 for more than 128 found
unfoldable pub survivor_sets : ℕ → List ℕ → Outcome (List ℕ)
survivor_sets n groups =
    refuse_if (not (is_frame n)) FrameSize
    (refuse_if (is_empty groups) TooManyCores
    (refuse_if (ltb max_cores (length groups)) TooManyCores
    (refuse_if (not (all (is_set n) groups)) BadSet
    (refuse_if (ltb max_sets (length (dual groups))) TooManySets
    (yields (dual groups))))))
