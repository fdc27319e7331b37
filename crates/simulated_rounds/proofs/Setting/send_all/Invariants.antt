-- The drives one after the other, each with the drives of its list; one that is no sender changes nothing.
use mathlib.Core.Path.{◌≡◌}
use lib.ListN.{length, take}
use Rattle.simulated_sends.specs.States.{due_of}
use Rattle.simulated_rounds.proofs.Deliveries.{Delivering}
use Rattle.simulated_rounds.proofs.SenderCalls.{Sending}
use Rattle.simulated_rounds.proofs.Setting.send_all.Given as goal

abbrev pub invariant-loop-i : goal.invariant-loop-i
invariant-loop-i l = Sending l.self.n l.self.core l.self.crashes.now l.self.round.0 l.began l.initial.all l.all l.i × (length l.buf ≡ 268)

abbrev pub invariant-loop-to : goal.invariant-loop-to
invariant-loop-to l = Delivering l.self.n (take l.sent.size l.buf) l.initial.all l.all (due_of l.sent.due) (due_of l.to-iterator)
