-- The common part of a list of sets: a drive is in it exactly if it is in each of them, so it is empty where they share
-- none.
use Rattle.std.specs.Prelude.{◌≡◌, Bool, true, ◌&&◌, List, [], ◌∷◌, ℕ, ◌^◌, ◌<◌}
use Rattle.std.proofs.Common.{sym, ap, ◌∙◌}
use Rattle.std.proofs.Math.Bool.{and-true, and_assoc}
use Rattle.drive_sets.specs.Bools.Laws.{and_left, and_right}
use Rattle.drive_sets.specs.Lists.{all, elem}
use Rattle.drive_sets.specs.Lists.Laws.{all_elem}
use Rattle.drive_sets.specs.Masks.{has, common}
use Rattle.drive_sets.specs.Masks.Laws.{has_common, common_lt}
use Rattle.verdict_search.specs.Meaning.{in_every}

pub every_lt : (b m : ℕ) (sets : List ℕ) → m < 2 ^ b → in_every m sets < 2 ^ b
unfolding in_every
every_lt b m [] h = h
every_lt b m (s ∷ sets) h = every_lt b (common m s) sets (common_lt b m s h)

pub has_every : (d m : ℕ) (sets : List ℕ) → has d (in_every m sets) ≡ (has d m && all (has d) sets)
unfolding in_every all
has_every d m [] = sym (and-true (has d m))
has_every d m (s ∷ sets) =
    has_every d (common m s) sets
    ∙ (ap (λ (b : Bool). b && all (has d) sets) (has_common d m s) ∙ and_assoc (has d m) (has d s) (all (has d) sets))

pub in_every_law : (d m : ℕ) (sets : List ℕ) → has d (in_every m sets) ≡ true → (has d m ≡ true) × ((s : ℕ) → elem s sets ≡ true → has d s ≡ true)
in_every_law d m sets h =
    let both = sym (has_every d m sets) ∙ h in
    (and_left (has d m) (all (has d) sets) both, λ s i. all_elem (has d) sets s (and_right (has d m) (all (has d) sets) both) i)
