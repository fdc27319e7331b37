-- The number of blocks: 2 to 4.
use Rattle.std.specs.Prelude.{◌≡◌, false, not, ◌&&◌, ℕ, ◌≤◌, leb}
use Rattle.std.proofs.Common.{leb-true}
use Rattle.std.proofs.lemmas.Bool.{not-false}
use Rattle.drive_sets.specs.Bools.Laws.{and_left, and_right}

-- where 12 is not met
pub block_count_within : (k : ℕ) → not (leb 2 k && leb k 4) ≡ false → (2 ≤ k) × (k ≤ 4)
block_count_within k h =
    let both = not-false (leb 2 k && leb k 4) h in
    (leb-true 2 k (and_left (leb 2 k) (leb k 4) both), leb-true k 4 (and_right (leb 2 k) (leb k 4) both))
