-- The blocks as they are formed, with the moves made in the part of the array that they fill.
use mathlib.Core.List.{List}
use mathlib.Core.Path.{ap, ◌∙◌}
use lib.ListN.{take}
use native.Mathlib.Omega.{arith}
use Prim.Native.Nat.{ℕ}
use Rattle.verdict_search.specs.declared.Verdict.TheVariants.{No}
use Rattle.verdict_search.specs.Held.{with_blocks}
use Rattle.splits.specs.Splits.{fill_empty}
use Rattle.splits.specs.Splits.Moves.{length_fill}
use Rattle.verdict_search.specs.Verdicts.{sets_at, blocks_of}
use Rattle.verdict_search.proofs.Verdicts.Blocks.{length_blocks}
use Rattle.verdict_search.proofs.Fours.{changed_in}
use Rattle.verdict_search.proofs.Splitting.{count_named}
use Rattle.verdict_search.proofs.no_at.Goals as goal

pub returns : goal.returns
unfolding with_blocks
returns c =
    let a = c.args in
    let first = blocks_of a.n 0 (sets_at a.table.now (take a.k a.positions)) in
    let count = length_blocks a.n 0 (sets_at a.table.now (take a.k a.positions)) ∙ count_named a.table.now a.positions a.k (omega arith) in
    ap (λ (l : List ℕ). No a.positions l)
    (changed_in fill_empty first a.k count c.requires.0 (length_fill first ∙ count) _ _ c.from.ensures c.form_blocks-blocks.ensures c.fill_empty.ensures)
