-- What the sets that a word marks share of c, set after set.
use Rattle.drive_sets.specs.Masks.{size}
use Rattle.hitting_sets.proofs.InMarked.{Cutting}
use Rattle.hitting_sets.proofs.marks.shared_in_word.Given as goal

abbrev pub invariant-loop-rest : goal.invariant-loop-rest
invariant-loop-rest l = Cutting l.sets l.base l.word l.c l.rest l.all

abbrev pub decreases-loop-rest : goal.decreases-loop-rest
decreases-loop-rest l = size l.rest
