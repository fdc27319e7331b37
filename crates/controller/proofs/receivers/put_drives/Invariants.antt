-- The drives of the mask from the lowest, each behind the one before.
use Rattle.controller.proofs.SentLists.{Placing}
use Rattle.controller.proofs.receivers.put_drives.Given as goal

abbrev pub invariant-loop-i : goal.invariant-loop-i
invariant-loop-i l = Placing l.m l.initial.part l.part l.rest l.i
