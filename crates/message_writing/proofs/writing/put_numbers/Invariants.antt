-- The mask's drives from the lowest, each number behind the one before.
use Rattle.drive_sets.specs.Masks.{size}
use Rattle.drive_states.specs.State.{number_in}
use Rattle.message_writing.proofs.Writes.{Telling}
use Rattle.message_writing.proofs.writing.put_numbers.Given as goal

abbrev pub invariant-loop-m : goal.invariant-loop-m
invariant-loop-m l = Telling (number_in l.numbers) l.mask l.initial.part l.part l.at l.m

abbrev pub decreases-loop-m : goal.decreases-loop-m
decreases-loop-m l = size l.m
