-- Some set covers p.
use borrow.Author.Rules.{rules}
use borrow.Author.Tests.{tests}
use mathlib.Core.Bool.{Bool, ◌||◌}
use mathlib.Core.List.{List, [], ◌∷◌}
use mathlib.Core.Path.{◌≡◌, refl, ap, ◌∙◌}
use Prim.Native.Nat.{ℕ}
use Rattle.std.specs.List.{list_any}
use Rattle.std.proofs.lemmas.Iterator.{YieldsList-from_slice}
use Rattle.std.proofs.lemmas.Iterator.Search.{any_from_yields_List}
use Rattle.drive_sets.specs.Lists.{any}
use Rattle.drive_sets.specs.Masks.{union, subset}
use Rattle.hitting_sets.specs.LookAhead.{covered}
use Rattle.hitting_sets.proofs.search.covered.Goals as goal

list_any_any : (p : ℕ → Bool) (l : List ℕ) → list_any p l ≡ any p l
unfolding any
list_any_any p [] = refl
list_any_any p (x ∷ l) = ap (λ (b : Bool). p x || b) (list_any_any p l)

pub returns : goal.returns
unfolding covered union
returns c =
    any_from_yields_List (λ s. subset s c.minus-within.result) _ _ _ c.any.ensures.ran (YieldsList-from_slice c.args.sets.now (cc)) (λ x b q k. search (rules, tests))
    ∙ (list_any_any _ c.args.sets.now ∙ ap (λ (w : ℕ). any (λ s. subset s w) c.args.sets.now) c.minus-within.ensures)
