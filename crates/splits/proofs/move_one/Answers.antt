-- Nothing where no block has two drives or none is empty; else the move between the two.
use mathlib.Core.Path.{◌∙◌}
use Rattle.splits.specs.Splits.{moved}
use Rattle.splits.proofs.Moving.{place_within}
use Rattle.splits.proofs.move_one.Goals as goal

pub returns-in_default : goal.returns-in_default
unfolding moved
returns-in_default c = rw (← c.first_large.ensures, c.in_default.is-0, ← c.first_empty.ensures, c.in_default.is-1)

pub returns-in_default-2 : goal.returns-in_default-2
unfolding moved
returns-in_default-2 c = rw (← c.first_large.ensures, c.in_default.is-0)

pub overflow_sub-from : goal.overflow_sub-from
overflow_sub-from c = (place_within _ _ c.first_large.ensures c.in-Some-Some.is-0).0

pub overflow_sub-to : goal.overflow_sub-to
overflow_sub-to c = (place_within _ _ c.first_empty.ensures c.in-Some-Some.is-1).0

pub move_lowest-requires : goal.move_lowest-requires
move_lowest-requires c = ((place_within _ _ c.first_large.ensures c.in-Some-Some.is-0).1, (place_within _ _ c.first_empty.ensures c.in-Some-Some.is-1).1)

pub returns : goal.returns
unfolding moved
returns c = c.move_lowest.ensures ∙ rw (← c.first_large.ensures, c.in-Some-Some.is-0, ← c.first_empty.ensures, c.in-Some-Some.is-1)
