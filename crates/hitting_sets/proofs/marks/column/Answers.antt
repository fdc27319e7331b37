-- From the column's first word on.
use mathlib.Core.Path.{ap, ◌∙◌}
use Prim.Native.Nat.{ℕ, ◌-◌, ◌*◌}
use native.Mathlib.Nat.{le_of_eq}
use lib.Seq.{take_all}
use lib.ListN.{length, drop, length-drop}
use Rattle.hitting_sets.proofs.marks.column.Goals as goal

pub returns : goal.returns
returns c =
    let l = c.args.columns.now in
    let p = c.place-start.result in
    take_all (length l - 16 * p) (drop (16 * p) l) (le_of_eq (length-drop (16 * p) l)) ∙ ap (λ (k : ℕ). drop (16 * k) l) c.place-start.ensures.0
