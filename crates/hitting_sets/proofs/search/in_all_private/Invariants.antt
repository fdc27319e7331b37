-- What the private sets of each drive share: the sets from the last to the first, of which one with one drive of m
-- counts for that drive.
use Rattle.hitting_sets.proofs.Shares.{Sharing}
use Rattle.hitting_sets.proofs.search.in_all_private.Given as goal

abbrev pub invariant-loop-s : goal.invariant-loop-s
invariant-loop-s l = Sharing l.sets l.m l.yielded l.all
