-- What a verdict means: sets that share a drive (k-Intersection), and lists of positions and their order. Verdicts/ has
-- the theorems.
use Rattle.std.specs.Prelude.{◌≡◌, Bool, true, false, ◌&&◌, ◌||◌, ◌⊎◌, List, [], ◌∷◌, ℕ, ◌≤◌, eqb, leb, ltb, length}
use Rattle.drive_sets.specs.Lists.{elem, ordered}
use Rattle.drive_sets.specs.Masks.{has, common}
use Rattle.verdict_search.specs.Verdicts.{sets_at}

-- ---- k-Intersection

-- the sets share a drive: one of 1 to n that each of them has
pub record SharedDrive (n : ℕ) (sets : List ℕ) : Type 0 where
  pub drive : ℕ
  pub low : 1 ≤ drive
  pub high : drive ≤ n
  pub in_each : (s : ℕ) → elem s sets ≡ true → has drive s ≡ true

-- the drives of m that each of the sets has: the common part
unfoldable pub in_every : ℕ → List ℕ → ℕ
in_every m [] = m
in_every m (s ∷ sets) = in_every (common m s) sets

-- each of the sets is one of the table's
abbrev pub AllFrom : List ℕ → List ℕ → Type 0
AllFrom table sets = (s : ℕ) → elem s sets ≡ true → elem s table ≡ true

-- every k sets of the table, in any order, repeats allowed, share a drive
abbrev pub Intersection : ℕ → ℕ → List ℕ → Type 0
Intersection k n table = (sets : List ℕ) → length sets ≡ k → AllFrom table sets → SharedDrive n sets

-- ---- positions

-- k positions of the table, from 1
pub record Positions (k : ℕ) (table ps : List ℕ) : Type 0 where
  pub count : length ps ≡ k
  pub within : (p : ℕ) → elem p ps ≡ true → (1 ≤ p) × (p ≤ length table)

-- no position is below an earlier one
unfoldable pub not_falling : List ℕ → Bool
not_falling ps = ordered leb ps

-- compared left to right: at the first place where the two lists differ, the first list has the smaller position
unfoldable pub precedes : List ℕ → List ℕ → Bool
precedes [] qs = false
precedes (p ∷ ps) [] = false
precedes (p ∷ ps) (q ∷ qs) = ltb p q || (eqb p q && precedes ps qs)

-- k positions, not falling, whose sets share no drive
pub record NoneShared (k n : ℕ) (table ps : List ℕ) : Type 0 where
  pub positions : Positions k table ps
  pub not_falling_law : not_falling ps ≡ true
  pub share_none : SharedDrive n (sets_at table ps) → ⊥

-- the first of these
pub record FirstNoneShared (k n : ℕ) (table ps : List ℕ) : Type 0 where
  pub none_shared : NoneShared k n table ps
  pub first : (qs : List ℕ) → NoneShared k n table qs → (ps ≡ qs) ⊎ (precedes ps qs ≡ true)
