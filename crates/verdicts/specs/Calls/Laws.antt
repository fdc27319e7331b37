-- The verdict of the call given n and sets: where it is not refused, k is 2 to 4, the table is accepted, the frame has
-- more than k drives, and the verdict is the one on the normal table. So the theorems on accepted tables hold of it.
use Rattle.std.specs.Prelude.{◌≡◌, not, ◌&&◌, List, ℕ, ◌≤◌, ◌<◌, leb, length}
use Rattle.std.proofs.Common.{sym, ap, ◌∙◌, arith}
use borrow.Author.Tests.{leb-false, le-leb, lt-leb}
use Rattle.drive_sets.specs.declared.Refusal.TheVariants.{BlockCount, FewDrives}
use Rattle.drive_sets.specs.Refusals.{refused, yields}
use Rattle.drive_sets.specs.Refusals.Laws.{passed, first_result, same_result}
use Rattle.survivor_tables.specs.Order.{normal}
use Rattle.survivor_tables.specs.Tables.{checked_sets, normal_table, Accepted}
use Rattle.survivor_tables.specs.declared.frames.MaskKind.TheVariants.{SurvivorSet}
use Rattle.survivor_tables.proofs.Tables.Laws.{checked_masks_law, table_accepted, accepted_normal, accepted_checked, accepted_table}
use Rattle.verdict_search.specs.Verdicts.{Verdict, no, verdict_on}
use Rattle.verdict_search.specs.Verdicts.BlockCounts.{block_count_within}
use Rattle.verdict_search.proofs.Verdicts.Intersection.{no_counts}
use Rattle.verdicts.specs.Calls.{judged, verdict, verdict_given}

pub record Answered (k n : ℕ) (sets : List ℕ) (v : Verdict) : Type 0 where
  pub low : 2 ≤ k
  pub high : k ≤ 4
  pub accepted : Accepted n sets
  pub more : k < n
  pub is : v ≡ verdict_on k n (normal sets)

pub verdict_answered : (k n : ℕ) (sets : List ℕ) (v : Verdict) → verdict k n sets ≡ yields v → Answered k n sets v
unfolding verdict judged
verdict_answered k n sets v e =
    let count = passed (not (leb 2 k && leb k 4)) BlockCount _ e in
    let table = first_result (normal_table n sets) (judged k n) count.1 in
    let known = table_accepted n sets table.0 table.1 in
    let drives = passed (leb n k) FewDrives _ table.2 in
    record {
      low = (block_count_within k count.0).0;
      high = (block_count_within k count.0).1;
      accepted = known.0;
      more = leb-false n k drives.0;
      is = sym (same_result drives.1) ∙ ap (verdict_on k n) known.1;
    }

-- of an accepted table the call given its normal table says the same
pub given_normal : (k n : ℕ) (sets : List ℕ) → Accepted n sets → verdict_given k n (normal sets) ≡ verdict k n sets
unfolding verdict verdict_given
given_normal k n sets a = rw (checked_masks_law SurvivorSet n (normal sets) (accepted_checked n (normal sets) (accepted_normal n sets a)), accepted_table n sets a)

-- ---- which calls get an answer

module _ (k n : ℕ) (table : List ℕ) (low : 2 ≤ k) (high : k ≤ 4) (accepted : Accepted n table) where
  -- 33 for a frame of k drives or fewer
  pub given_few : n ≤ k → verdict_given k n table ≡ refused 33
  unfolding verdict_given judged
  given_few few = rw (le-leb 2 k low, le-leb k 4 high, checked_masks_law SurvivorSet n table (accepted_checked n table accepted), le-leb n k few)

  -- and the verdict for every other
  pub given_more : k < n → verdict_given k n table ≡ yields (verdict_on k n table)
  unfolding verdict_given judged
  given_more more = rw (le-leb 2 k low, le-leb k 4 high, checked_masks_law SurvivorSet n table (accepted_checked n table accepted), lt-leb n k more)

-- a no has k positions and k blocks, and no more than four
pub given_counts : (k n : ℕ) (table : List ℕ) {ps blocks : List ℕ} → verdict_given k n table ≡ yields (no ps blocks) → (length ps ≤ 4) × (length blocks ≤ 4)
unfolding verdict_given judged
given_counts k n table {ps = ps} {blocks = blocks} e =
    let count = passed (not (leb 2 k && leb k 4)) BlockCount _ e in
    let high = (block_count_within k count.0).1 in
    let checked = first_result (checked_sets n table) (judged k n) count.1 in
    let counts = no_counts k n checked.0 (same_result (passed (leb n k) FewDrives _ checked.2).1) in
    (omega (arith, counts.0), omega (arith, counts.1))
