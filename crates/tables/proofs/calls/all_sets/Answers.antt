-- Each set tested.
use Rattle.std.specs.Prelude.{◌≡◌, refl, Bool, ◌&&◌, List, [], ◌∷◌, ℕ}
use Rattle.std.specs.List.{list_all}
use Rattle.std.proofs.Common.{ap, ◌∙◌, rules, tests}
use Rattle.std.proofs.lemmas.Iterator.{YieldsList-from_slice}
use Rattle.std.proofs.lemmas.Iterator.Search.{all_from_yields_List}
use Rattle.drive_sets.specs.Lists.{all}
use Rattle.survivor_tables.specs.Tables.{is_set}
use Rattle.tables.proofs.calls.all_sets.Goals as goal

list_all_all : (p : ℕ → Bool) (l : List ℕ) → list_all p l ≡ all p l
unfolding all
list_all_all p [] = refl
list_all_all p (x ∷ l) = ap (λ (b : Bool). p x && b) (list_all_all p l)

pub returns : goal.returns
returns c =
    let a = c.args in
    let each = YieldsList-from_slice a.sets.now (cc) in
    all_from_yields_List (is_set a.n) _ _ _ c.all.ensures.ran each (λ x b q k. search (rules, tests))
    ∙ list_all_all (is_set a.n) a.sets.now
