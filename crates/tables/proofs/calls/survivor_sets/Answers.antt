-- The refusals in order, then what is found.
use Rattle.std.specs.Prelude.{refl}
use Rattle.std.proofs.Common.{lt-ltb, le-ltb}
use Rattle.survivor_tables.specs.Tables.{survivor_sets}
use Rattle.complete_tables.proofs.Completes.{empty_law}
use Rattle.tables.proofs.CallAnswers.{dual_more, dual_few, dual_found}
use Rattle.tables.proofs.calls.survivor_sets.Goals as goal

pub returns-then-not-is_frame : goal.returns-then-not-is_frame
unfolding survivor_sets
returns-then-not-is_frame c = rw (← c.is_frame.ensures, c.if-not-is_frame.true)

pub returns-then-is_empty : goal.returns-then-is_empty
unfolding survivor_sets
returns-then-is_empty c =
    rw (← c.is_frame.ensures, c.if-not-is_frame.false, empty_law, ← c.is_empty.ensures, c.if-is_empty.true)

pub returns-then-groups-gt-MAX_CORES : goal.returns-then-groups-gt-MAX_CORES
unfolding survivor_sets
returns-then-groups-gt-MAX_CORES c =
    rw (← c.is_frame.ensures, c.if-not-is_frame.false, empty_law, ← c.is_empty.ensures, c.if-is_empty.false)
    (rw (lt-ltb 1024 _ c.if-groups-gt-MAX_CORES.true))

pub returns-then-not-all_sets : goal.returns-then-not-all_sets
unfolding survivor_sets
returns-then-not-all_sets c =
    rw (← c.is_frame.ensures, c.if-not-is_frame.false, empty_law, ← c.is_empty.ensures, c.if-is_empty.false)
    (rw (le-ltb 1024 _ c.if-groups-gt-MAX_CORES.false, ← c.all_sets.ensures, c.if-not-all_sets.true))

pub returns-then-count-gt-MAX_SETS : goal.returns-then-count-gt-MAX_SETS
unfolding survivor_sets
returns-then-count-gt-MAX_SETS c =
    rw (← c.is_frame.ensures, c.if-not-is_frame.false, empty_law, ← c.is_empty.ensures, c.if-is_empty.false)
    (rw (le-ltb 1024 _ c.if-groups-gt-MAX_CORES.false, ← c.all_sets.ensures, c.if-not-all_sets.false)
    (rw (dual_more refl c.minimal_hitting_sets-count.ensures c.if-count-gt-MAX_SETS.true)))

pub returns : goal.returns
unfolding survivor_sets
returns c =
    rw (← c.is_frame.ensures, c.if-not-is_frame.false, empty_law, ← c.is_empty.ensures, c.if-is_empty.false)
    (rw (le-ltb 1024 _ c.if-groups-gt-MAX_CORES.false, ← c.all_sets.ensures, c.if-not-all_sets.false)
    (rw (dual_few refl c.minimal_hitting_sets-count.ensures c.if-count-gt-MAX_SETS.false, c.first.ensures)
    (rw (dual_found refl c.minimal_hitting_sets-count.ensures c.if-count-gt-MAX_SETS.false))))
