-- The verdict on k (k-Intersection; k-Partition is its other side): yes if any k sets of the normal table, repeats
-- allowed, share a drive. Otherwise no, with the first k positions whose sets share none, and the blocks of a split
-- into k of which none is empty and none holds a core.
use Rattle.std.specs.Prelude.{cond, List, [], ◌∷◌, map, ℕ, zero, suc, ◌-◌, eqb, get_or}
use Rattle.std.proofs.Math.Option.{Option, some, none}
use Rattle.drive_sets.specs.Masks.{full, union, common, outside}
use Rattle.splits.specs.Splits.{fill_empty}
pub mod CommonPart
pub mod BlockCounts

pub data Verdict : Type 0 where
  yes : Verdict
  no : List ℕ → List ℕ → Verdict

-- the position in front of those found; else the other way
abbrev pub with_position : ℕ → Option (List ℕ) → Option (List ℕ) → Option (List ℕ)
with_position p (some ps) other = some (p ∷ ps)
with_position p none other = other

-- the first of the sets, at position p and on, with which f finds the rest
unfoldable pub first_with : (ℕ → List ℕ → ℕ → Option (List ℕ)) → ℕ → List ℕ → ℕ → Option (List ℕ)
first_with f p [] shared = none
first_with f p (s ∷ sets) shared =
    let later = first_with f (suc p) sets shared in
    with_position p (f p (s ∷ sets) (common shared s)) later

-- the first k positions, not falling, compared left to right, whose sets have no drive of `shared` in common
unfoldable pub disjoint : ℕ → ℕ → List ℕ → ℕ → Option (List ℕ)
disjoint zero p sets shared = cond (eqb shared 0) (some []) none
disjoint (suc k) p sets shared = first_with (λ q rest common. disjoint k q rest common) p sets shared

-- block i: the drives outside the i-th named set and in no earlier block
unfoldable pub blocks_of : ℕ → ℕ → List ℕ → List ℕ
blocks_of n taken [] = []
blocks_of n taken (s ∷ named) = outside n (union s taken) ∷ blocks_of n (union taken (outside n (union s taken))) named

-- the set at a position of the table, from 1, and the sets at a list of positions
abbrev pub set_at : List ℕ → ℕ → ℕ
set_at table p = get_or table (p - 1) 0

abbrev pub sets_at : List ℕ → List ℕ → List ℕ
sets_at table ps = map (set_at table) ps

-- after the blocks are formed, while one is empty, the lowest drive of the first block with two or more moves to the
-- first empty block
abbrev pub verdict_with : ℕ → List ℕ → Option (List ℕ) → Verdict
verdict_with n table none = yes
verdict_with n table (some ps) = no ps (fill_empty (blocks_of n 0 (sets_at table ps)))

-- the verdict on a normal table
unfoldable pub verdict_on : ℕ → ℕ → List ℕ → Verdict
verdict_on k n table = verdict_with n table (disjoint k 1 table (full n))
