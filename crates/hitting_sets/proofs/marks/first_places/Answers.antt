-- All drives up to n, or the whole word.
use mathlib.Core.Path.{sym, ap, ◌∙◌}
use native.Mathlib.Omega.{arith}
use Rattle.drive_sets.specs.Masks.Laws.{has_bounds, full_lt}
use Rattle.drive_sets.specs.Masks.{has, full}
use Rattle.hitting_sets.proofs.marks.first_places.Goals as goal

pub returns-then-n-lt64 : goal.returns-then-n-lt64
returns-then-n-lt64 c = λ b h. (has_bounds _ b _ (full_lt c.args.n) (ap (has b) (sym c.full.ensures) ∙ h)).1

pub returns : goal.returns
unfolding full
returns c = λ b h. let high = (has_bounds 64 b (full 64) (full_lt 64) h).1 in omega (arith, high, c.if-n-lt64.false)
