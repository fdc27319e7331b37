-- At the drive's place, which the array has, or nowhere.
use mathlib.Core.Path.{sym, ◌∙◌}
use Rattle.drive_sets.specs.Masks.Laws.{has_bounds}
use borrow.Author.Rules.{rules}
use Rattle.proposal_lists.proofs.note.Goals as goal

pub overflow_sub-number : goal.overflow_sub-number
overflow_sub-number c = (has_bounds 64 _ _ (search rules) (sym c.has.ensures ∙ c.if-has.true)).0

pub returns-then-has : goal.returns-then-has
returns-then-has c = rw (← c.has.ensures, c.if-has.true)

pub returns-else-has : goal.returns-else-has
returns-else-has c = rw (← c.has.ensures, c.if-has.false)
