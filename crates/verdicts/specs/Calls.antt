-- The verdict of a call: its refusals in order, and the verdict on the normal table.
use Rattle.std.specs.Prelude.{not, ◌&&◌, List, ℕ, leb}
use Rattle.drive_sets.specs.declared.Refusal.TheVariants.{BlockCount, FewDrives}
use Rattle.drive_sets.specs.Refusals.{Outcome, yields, refuse_if, and_then}
use Rattle.survivor_tables.specs.Tables.{checked_sets, normal_table}
use Rattle.verdict_search.specs.Verdicts.{Verdict, verdict_on}
pub mod Laws

-- the verdict on a normal table, and for a frame of k drives or fewer 33
unfoldable pub judged : ℕ → ℕ → List ℕ → Outcome Verdict
judged k n table = refuse_if (leb n k) FewDrives (yields (verdict_on k n table))

-- the call: 12, then the table's refusals, then 33
unfoldable pub verdict : ℕ → ℕ → List ℕ → Outcome Verdict
verdict k n sets = refuse_if (not (leb 2 k && leb k 4)) BlockCount (and_then (normal_table n sets) (judged k n))

-- the call given a normal table, for which the cores are not looked for: 12, then 3, 2, 5, 4, then 33
unfoldable pub verdict_given : ℕ → ℕ → List ℕ → Outcome Verdict
verdict_given k n table = refuse_if (not (leb 2 k && leb k 4)) BlockCount (and_then (checked_sets n table) (judged k n))
