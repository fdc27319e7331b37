-- The drives that stay critical: the sets from the last to the first, of which those that add no drive or are covered
-- do not count.
use Rattle.hitting_sets.proofs.Backwards.{Passed}
use Rattle.hitting_sets.specs.LookAhead.{covered}
use Rattle.survivor_tables.specs.Hitting.{critical}
use Rattle.drive_sets.specs.Lists.{filter}
use mathlib.Core.Bool.{not}
use Rattle.hitting_sets.proofs.search.critical_uncovered.Given as goal

abbrev pub invariant-loop-s : goal.invariant-loop-s
invariant-loop-s l = Passed (λ sets. critical (filter (λ s. not (covered l.ahead l.m l.bar s)) sets) l.m) l.sets l.yielded l.found
