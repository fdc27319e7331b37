-- A drive of the frame above the last, in plain terms.
use Rattle.std.specs.Prelude.{◌≡◌, true, ◌&&◌, ℕ, ◌≤◌, ◌<◌, leb, ltb}
use Rattle.std.proofs.Common.{leb-true, ltb-true}
use Rattle.drive_sets.specs.Bools.Laws.{and_left, and_right}
use Rattle.drive_sets.specs.Counts.{is_drive}
use Rattle.runs.specs.CrashRecords.{is_next}

pub next_bounds : (n last d : ℕ) → is_next n last d ≡ true → (1 ≤ d) × (d ≤ n) × (last < d)
unfolding is_next is_drive
next_bounds n last d h =
    let two = and_left (leb 1 d && leb d n) (ltb last d) h in
    (leb-true 1 d (and_left (leb 1 d) (leb d n) two), leb-true d n (and_right (leb 1 d) (leb d n) two), ltb-true last d (and_right (leb 1 d && leb d n) (ltb last d) h))
