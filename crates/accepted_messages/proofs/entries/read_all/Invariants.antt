-- The entries one after the other: what is left, compared and stored over what is held, says and gives what the whole
-- does.
use mathlib.Core.Bool.{Bool}
use mathlib.Core.List.{List}
use lib.ListN.{drop}
use Rattle.drive_sets.specs.declared.Pattern.{Pattern}
use Rattle.drive_sets.specs.Masks.{size, drives}
use Rattle.records.specs.Marks.{number_width}
use Rattle.drive_states.specs.declared.Exchange.{Exchange}
use Rattle.drive_states.specs.Messages.{Entry, entries_from}
use Rattle.agreement.specs.Calls.{any_differs, stored}
use Rattle.accepted_messages.proofs.EntryWalks.{Entries}
use Rattle.accepted_messages.proofs.entries.read_all.Given as goal

-- whether one differs, and the numbers with those of the entries
abbrev pub both : Exchange → List Pattern → List Entry → Bool × List Pattern
both x held es = (any_differs x es, stored held es)

abbrev pub invariant-loop-m : goal.invariant-loop-m
invariant-loop-m l = Entries (number_width l.kind) (both l.x l.x.numbers (entries_from (number_width l.kind) (drives l.mask) (drop 12 l.s))) (both l.x l.numbers) l.values l.m

abbrev pub decreases-loop-m : goal.decreases-loop-m
decreases-loop-m l = size l.m
