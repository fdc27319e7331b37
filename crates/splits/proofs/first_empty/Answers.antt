-- The first block that all drives miss.
use mathlib.Core.Path.{ap, ◌∙◌}
use Prim.Native.Nat.{ℕ}
use Rattle.survivor_tables.specs.Hitting.{first_missed}
use Rattle.splits.proofs.Moving.{missed_empty}
use Rattle.splits.proofs.first_empty.Goals as goal

pub returns : goal.returns
returns c = let blocks = c.args.blocks.now in c.first_missed.ensures ∙ (ap (λ (m : ℕ). first_missed blocks m) c.full.ensures ∙ missed_empty blocks (λ k. (c.type_inv.blocks k).fits))
