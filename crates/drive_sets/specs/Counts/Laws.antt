-- The drives of a frame are the numbers 1 to n, and the rounds those from 1 to the core's size.
use Rattle.std.specs.Prelude.{◌≡◌, true, ℕ, ◌≤◌, leb}
use Rattle.std.proofs.Common.{arith, leb-true, le-leb}
use Rattle.drive_sets.specs.Bools.Laws.{same_test, and_intro, and_left, and_right}
use Rattle.drive_sets.specs.Counts.{is_drive, is_round}
use Rattle.drive_sets.specs.Lists.{range, elem}
use Rattle.drive_sets.specs.Lists.Laws.{elem_range, range_elem}
use Rattle.drive_sets.specs.Masks.{size}

pub drive_bounds : (n d : ℕ) → is_drive n d ≡ true → (1 ≤ d) × (d ≤ n)
unfolding is_drive
drive_bounds n d h = (leb-true 1 d (and_left (leb 1 d) (leb d n) h), leb-true d n (and_right (leb 1 d) (leb d n) h))

pub is_drive_law : (n d : ℕ) → 1 ≤ d → d ≤ n → is_drive n d ≡ true
unfolding is_drive
is_drive_law n d low high = and_intro (le-leb 1 d low) (le-leb d n high)

pub is_drive_range : (n d : ℕ) → is_drive n d ≡ elem d (range 1 n)
is_drive_range n d =
    same_test (is_drive n d) (elem d (range 1 n))
    (λ h. let b = drive_bounds n d h in range_elem d 1 n b.0 (omega arith))
    (λ h. let b = elem_range d 1 n h in is_drive_law n d b.0 (omega arith))

pub round_bounds : (core r : ℕ) → is_round core r ≡ true → (1 ≤ r) × (r ≤ size core)
unfolding is_round
round_bounds core r h = (leb-true 1 r (and_left (leb 1 r) (leb r (size core)) h), leb-true r (size core) (and_right (leb 1 r) (leb r (size core)) h))

pub is_round_law : (core r : ℕ) → 1 ≤ r → r ≤ size core → is_round core r ≡ true
unfolding is_round
is_round_law core r low high = and_intro (le-leb 1 r low) (le-leb r (size core) high)
