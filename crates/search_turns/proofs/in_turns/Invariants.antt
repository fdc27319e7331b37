-- Turn after turn on the same sets in another order, until one is done.
use mathlib.Core.Path.{◌≡◌}
use lib.ListN.{length}
use Rattle.search_orders.specs.Rearranged.{Permuted}
use Rattle.search_turns.proofs.in_turns.Given as goal

abbrev pub invariant-loop-turn : goal.invariant-loop-turn
invariant-loop-turn l = Permuted l.initial.sets l.sets × (length l.sets ≡ length l.initial.sets) × (length l.list ≡ length l.initial.list) × (length l.ends ≡ length l.initial.ends)
