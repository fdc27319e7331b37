-- The arrays are zeros.
use mathlib.Core.Path.{refl}
use Rattle.verdict_search.specs.Held.{with_blocks, in_four}
use Rattle.verdict_search.proofs.no_verdict.Goals as goal

pub returns : goal.returns
unfolding with_blocks in_four
returns c = refl
