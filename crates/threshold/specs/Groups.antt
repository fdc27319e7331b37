-- The groups of k out of n drives: the sets of drives 1 to n that have k drives.
use Rattle.std.specs.Prelude.{List, [], ◌∷◌, ◌++◌, map, ℕ, zero, suc, length}
use Rattle.drive_sets.specs.Masks.{single, union}
pub mod Laws

-- all of them, each once, by mask rising: those without drive n, then those with it
unfoldable pub groups : ℕ → ℕ → List ℕ
groups zero n = 0 ∷ []
groups (suc k) zero = []
groups (suc k) (suc n) = groups (suc k) n ++ map (union (single (suc n))) (groups k n)

-- how many there are
unfoldable pub group_count : ℕ → ℕ → ℕ
group_count k n = length (groups k n)
