-- Put at its place, or not where there is no room.
use mathlib.Core.Path.{refl, sym, ◌∙◌}
use lib.Seq.{set_out}
use Rattle.hitting_sets.proofs.search.put.Goals as goal
use Rattle.hitting_sets.proofs.search.put.Goals.{then-at-out, else-at-out}

pub returns : goal.returns
returns c =
    let a = c.args in
    (refl, refl, elim c.if-at-out.branch [ then-at-out w ↦ w.out-is | else-at-out w ↦ w.out-is ∙ sym (set_out a.out.now a.tally.found a.m w.if-at-out.false) ])
