-- Hitting sets of a list of sets of drives (transversals of a hypergraph), the minimal ones, and the search that lists
-- them. Document 01: a core is a group that meets every survivor set and of which no smaller part does (Junqueira and
-- Marzullo).
use Rattle.std.specs.Prelude.{◌≡◌, Bool, true, cond, List, [], ◌∷◌, ◌++◌, ℕ, eqb}
use Rattle.drive_sets.specs.Positions.{Position}
use Rattle.drive_sets.specs.Lists.{all, first_failing}
use Rattle.drive_sets.specs.Masks.{single, union, common, meets, subset, size, drives}
pub mod Laws
pub mod Normal
pub mod Critical
pub mod Minimality
pub mod Growth

-- m meets every one of the sets
unfoldable pub hits : List ℕ → ℕ → Bool
hits sets m = all (λ s. meets s m) sets

-- the position of the first of the sets that m misses, their first being at position i
abbrev pub missed_from : ℕ → List ℕ → ℕ → Position
missed_from i sets m = first_failing i (λ s. meets s m) sets

-- its position in the whole list; none exactly where m meets every one of the sets (`none_missed`)
abbrev pub first_missed : List ℕ → ℕ → Position
first_missed sets m = missed_from 1 sets m

-- m meets every one of the sets, and no smaller part of m does
pub record Minimal (sets : List ℕ) (m : ℕ) : Type 0 where
  pub all_met : hits sets m ≡ true
  pub no_part : (part : ℕ) → subset part m ≡ true → hits sets part ≡ true → part ≡ m

-- ---- the search: Berge's method, depth first

-- the critical drives of m: those that are alone in m in some set, which is private to the drive
unfoldable pub critical : List ℕ → ℕ → ℕ
critical [] m = 0
critical (s ∷ sets) m =
    let rest = critical sets m in
    let more = union (common s m) rest in
    cond (eqb (size (common s m)) 1) more rest

-- what f lists for m with each of the drives d, one after the other
unfoldable pub for_each : (ℕ → List ℕ) → ℕ → List ℕ → List ℕ
for_each f m [] = []
for_each f m (d ∷ ds) = f (union m (single d)) ++ for_each f m ds

-- The minimal hitting sets of all sets, seen and to come, that hold m, a minimal hitting set of those seen. A set that
-- m meets is passed over. At a set that m misses each of its drives is added in turn, where each drive then has a
-- private set among those seen.
unfoldable pub search : List ℕ → List ℕ → ℕ → List ℕ
search seen [] m = m ∷ []
search seen (s ∷ sets) m =
    let now = seen ++ (s ∷ []) in
    let on = search now sets m in
    let tried = for_each (λ t. let below = search now sets t in cond (eqb (critical now t) t) below []) m (drives s) in
    cond (meets s m) on tried

-- the minimal hitting sets, in the search's order
unfoldable pub minimals : List ℕ → List ℕ
minimals sets = search [] sets 0
