-- The two marks, word after word.
use lib.ListN.{get_or}
use Rattle.drive_sets.specs.Masks.{union, common, minus}
use Rattle.hitting_sets.proofs.Tracking.{Made}
use Rattle.hitting_sets.proofs.marks.take_drive.Given as goal

abbrev pub invariant-loop-i : goal.invariant-loop-i
invariant-loop-i l =
    Made (λ j. minus (get_or l.missed j 0) (get_or l.column j 0)) l.initial.left l.left l.i
    × Made (λ j. union (minus (get_or l.once j 0) (get_or l.column j 0)) (common (get_or l.missed j 0) (get_or l.column j 0))) l.initial.alone l.alone l.i
