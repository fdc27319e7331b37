-- Turn after turn on the same sets in another order, until one is done.
use mathlib.Core.Path.{◌∙◌}
use borrow.Author.Rules.{rules}
use Rattle.set_orders.specs.Sorting.Laws.{precedes_strict}
use Rattle.drive_sets.specs.Masks.Frames.{below_places}
use Rattle.std.proofs.lemmas.Option.{IfSome_then}
use Rattle.search_turns.proofs.Turns.{tried_other, same_room}
use Rattle.search_turns.proofs.in_turns.Goals as goal

pub returns-then-is_some : goal.returns-then-is_some
returns-then-is_some c =
    IfSome_then c.search_once-tried.result c.search_once-tried.ensures.attempted (λ a p.
    same_room (search rules)
    (tried_other _ (precedes_strict _) _ _ (below_places 64 _ (λ k. search rules))
    (λ x. c.arrange.ensures x ∙ c.loop-turn.invariant.0 x) p))

pub loop-turn-preserved : goal.loop-turn-preserved
loop-turn-preserved c = (
  λ x. c.arrange.ensures x ∙ c.loop-turn.invariant.0 x,
  search rules,
  search rules,
  search rules,
)
