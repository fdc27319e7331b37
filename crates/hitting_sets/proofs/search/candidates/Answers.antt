-- Where m cannot be extended there is none; else those that are not forbidden.
use mathlib.Core.Path.{sym, ◌∙◌}
use Rattle.drive_sets.specs.Masks.Laws.{has_none}
use Rattle.drive_sets.specs.Bools.Laws.{clash}
use Rattle.hitting_sets.proofs.Branches.{free_candidates, free_new, cannot_extend_candidates}
use Rattle.hitting_sets.proofs.search.candidates.Goals as goal

pub returns-then-cannot_extend : goal.returns-then-cannot_extend
returns-then-cannot_extend c =
    let start = c in (
      cannot_extend_candidates start.args.sets.now start.args.next start.args.m (λ k. (c.type_inv.sets k).fits) start.requires.0 start.requires.1 start.requires.2 (sym c.cannot_extend.ensures ∙ c.if-cannot_extend.true),
      λ d h. absurd (clash h (has_none d)),
    )

pub returns : goal.returns
returns c =
    let start = c in
    let a = start.args in (
      free_candidates a.sets.now a.next a.m (λ k. (c.type_inv.sets k).fits) start.requires.0 start.requires.1 start.requires.2 _ c.allowed.ensures,
      free_new a.sets.now a.next a.m (λ k. (c.type_inv.sets k).fits) start.requires.0 start.requires.1 start.requires.2 _ c.allowed.ensures,
    )
