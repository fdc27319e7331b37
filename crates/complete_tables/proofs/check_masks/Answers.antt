-- The refusals in order.
use Rattle.std.proofs.Common.{lt-ltb, le-ltb}
use Rattle.survivor_tables.specs.Tables.{checked_masks}
use Rattle.complete_tables.proofs.Completes.{empty_law}
use Rattle.complete_tables.proofs.check_masks.Goals as goal

pub returns-then-not-is_frame : goal.returns-then-not-is_frame
unfolding checked_masks
returns-then-not-is_frame c = rw (← c.is_frame.ensures, c.if-not-is_frame.true)

pub returns-then-is_empty : goal.returns-then-is_empty
unfolding checked_masks
returns-then-is_empty c =
    rw (← c.is_frame.ensures, c.if-not-is_frame.false, empty_law, ← c.is_empty.ensures, c.if-is_empty.true)

pub returns-then-masks-gt-MAX_SETS : goal.returns-then-masks-gt-MAX_SETS
unfolding checked_masks
returns-then-masks-gt-MAX_SETS c =
    rw (← c.is_frame.ensures, c.if-not-is_frame.false, empty_law, ← c.is_empty.ensures, c.if-is_empty.false)
    (rw (lt-ltb 128 _ c.if-masks-gt-MAX_SETS.true))

pub returns : goal.returns
unfolding checked_masks
returns c =
    rw (← c.is_frame.ensures, c.if-not-is_frame.false, empty_law, ← c.is_empty.ensures, c.if-is_empty.false)
    (rw (le-ltb 128 _ c.if-masks-gt-MAX_SETS.false) c.check_each.ensures)
