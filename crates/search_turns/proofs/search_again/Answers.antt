-- The turns on a copy, which is the sets.
use native.Mathlib.Omega.{arith}
use lib.ListN.{replicate}
use Rattle.std.proofs.lemmas.Option.{IfSome_then}
use Rattle.search_turns.proofs.Turns.{tried_copy}
use Rattle.search_turns.proofs.search_again.Goals as goal

pub returns : goal.returns
returns c = IfSome_then c.in_turns.result c.in_turns.ensures (λ a p. tried_copy c.args.sets.now (replicate 1024 0) _ (omega arith) c.copy.ensures p)
