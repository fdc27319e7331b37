-- A table from n and t, for a frame of which it is known only that at most t of its n drives drop out: document 02 (i).
use Rattle.std.specs.Prelude.{not, List, ℕ, ◌+◌, ◌-◌, ◌^◌, ◌≤◌, ◌<◌, leb, ltb, length}
use Rattle.drive_sets.specs.declared.Refusal.TheVariants.{FrameSize, Threshold, TooManyGroups}
use Rattle.drive_sets.specs.Limits.{max_sets}
use Rattle.drive_sets.specs.Masks.{outside, size}
use Rattle.drive_sets.specs.Refusals.{Outcome, yields, refuse_if, and_then}
use Rattle.survivor_tables.specs.Order.{sort}
use Rattle.survivor_tables.specs.Tables.{is_frame, core_order}
use Rattle.complete_tables.specs.Complete.{Complete, complete_table}
use Rattle.threshold.specs.Groups.{groups}
pub mod Laws

-- its executions: the drives that stay up are all but at most t
pub record AtMost (n t : ℕ) : Type 0 where
  pub up : ℕ
  pub within : up < 2 ^ n
  pub out : size (outside n up) ≤ t

-- its survivor sets: all groups of n - t drives
unfoldable pub threshold_sets : ℕ → ℕ → List ℕ
threshold_sets n t = groups (n - t) n

-- 3, then 31 when t is not below n, then 32 when more than 128 groups would be needed; then what the call gives that
-- accepts n and sets, so only then 13
unfoldable pub threshold_table : ℕ → ℕ → Outcome Complete
threshold_table n t =
    refuse_if (not (is_frame n)) FrameSize
    (refuse_if (leb n t) Threshold
    (refuse_if (ltb max_sets (length (threshold_sets n t))) TooManyGroups
    (complete_table n (threshold_sets n t))))

-- its sets alone
unfoldable pub threshold_list : ℕ → ℕ → Outcome (List ℕ)
threshold_list n t = and_then (threshold_table n t) (λ table. yields table.sets)

-- its cores (`threshold_cores_law`): all groups of t + 1 drives, in the order of cores
unfoldable pub threshold_cores : ℕ → ℕ → List ℕ
threshold_cores n t = sort core_order (groups (t + 1) n)

-- what it gives where it refuses nothing (`threshold_by_counts`): the sets, which are the normal table, and these
unfoldable pub threshold_complete : ℕ → ℕ → Complete
threshold_complete n t = record { n = n; sets = threshold_sets n t; cores = threshold_cores n t }
