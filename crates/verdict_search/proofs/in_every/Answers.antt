-- The drives that every set has, as a fold.
use Rattle.std.proofs.Common.{◌≡◌, ℕ, List, [], ◌∷◌, bit_and, fold, refl, ◌∙◌, rules}
use Rattle.drive_sets.specs.Masks.{common}
use Rattle.verdict_search.specs.Meaning.{in_every}
use Rattle.verdict_search.proofs.in_every.Goals as goal

fold_every : (m : ℕ) (sets : List ℕ) → fold (λ (a s : ℕ). bit_and a s) m sets ≡ in_every m sets
unfolding in_every common
fold_every m [] = refl
fold_every m (s ∷ sets) = fold_every (bit_and m s) sets

pub returns : goal.returns
returns c =
    let folded : c.fold.result ≡ fold (λ (a s : ℕ). bit_and a s) c.args.shared c.args.table.now = search rules in
    folded ∙ fold_every c.args.shared c.args.table.now
