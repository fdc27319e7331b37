-- The moves in code: the first empty block is the first that all drives miss, and the moves that are still to come.
use mathlib.Core.Path.{◌≡◌, refl, sym, ap, ◌∙◌}
use mathlib.Core.Bool.{Bool, not}
use mathlib.Core.List.{List}
use Prim.Native.Nat.{ℕ, zero, suc, ◌+◌, ◌-◌, ◌^◌, ◌≤◌, ◌<◌}
use native.Mathlib.Omega.{arith}
use lib.Bits.{bit_and}
use lib.Dec.{eqb}
use lib.ListN.{length, get_or}
use borrow.Author.Tests.{eqb-true}
use Rattle.drive_sets.specs.Positions.{Position}
use Rattle.std.specs.Prelude.{Some}
use Rattle.drive_sets.specs.Lists.{first_failing}
use Rattle.drive_sets.specs.Lists.FirstFailing.{failing_at, failing_same}
use Rattle.drive_sets.specs.Masks.{full, meets, subset}
use Rattle.drive_sets.specs.Masks.Laws.{subset_full}
use Rattle.survivor_tables.specs.Hitting.{first_missed}
use Rattle.splits.specs.Splits.{first_empty, moved, moves}

all_miss : (b : ℕ) → b < 2 ^ 64 → meets b (full 64) ≡ not (eqb b 0)
unfolding meets subset
all_miss b h = ap (λ (x : ℕ). not (eqb x 0)) (eqb-true (bit_and b (full 64)) b (subset_full 64 b (omega arith) h))

pub missed_empty : (blocks : List ℕ) → ((i : ℕ) → get_or blocks i 0 < 2 ^ 64) → first_missed blocks (full 64) ≡ first_empty blocks
missed_empty blocks words = failing_same (λ b. meets b (full 64)) (λ b. not (eqb b 0)) 1 blocks (λ i. all_miss (get_or blocks i 0) (words i))

-- a position found is one of the list
pub place_within : (p : ℕ → Bool) (l : List ℕ) {o : Position} {k : ℕ} → o ≡ first_failing 1 p l → o ≡ Some k → (1 ≤ k) × (k - 1 < length l)
place_within p l {k = k} e f = let w = failing_at p 1 l k (sym e ∙ f) in (omega (arith, w.at), omega (arith, w.at, w.within))

-- ---- the moves that are left

pub moves_next : (count i : ℕ) (blocks : List ℕ) {after : List ℕ} → i < count → after ≡ moved blocks → moves (count - (i + 1)) after ≡ moves (count - i) blocks
unfolding moves
moves_next count i blocks h e = ap (moves (count - (i + 1))) e ∙ sym (ap (λ (left : ℕ). moves left blocks) left)
  where
    left : count - i ≡ suc (count - (i + 1))
    left = omega (arith, h)

pub moves_done : (left : ℕ) (blocks : List ℕ) → left ≤ 0 → blocks ≡ moves left blocks
unfolding moves
moves_done zero blocks h = refl
moves_done (suc left) blocks h = absurd (omega arith)
