-- Any k sets of a table, repeats allowed, share a drive of m.
use Rattle.std.specs.Prelude.{◌≡◌, true, List, ℕ, length}
use Rattle.drive_sets.specs.Lists.{elem}
use Rattle.drive_sets.specs.Masks.{has}
use Rattle.verdict_search.specs.Meaning.{AllFrom}

-- a drive of m that each of the sets has
abbrev pub Shared : ℕ → List ℕ → Type 0
Shared m sets = (d : ℕ) × (has d m ≡ true) × ((s : ℕ) → elem s sets ≡ true → has d s ≡ true)

abbrev pub AllShare : ℕ → List ℕ → ℕ → Type 0
AllShare k table m = (sets : List ℕ) → length sets ≡ k → AllFrom table sets → Shared m sets
