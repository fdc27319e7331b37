-- The list of a drive's sends as a call that puts it into lent memory: document 01's order, the one that agreement
-- rests on, as the fields of a state say it.
use Rattle.std.specs.Prelude.{not, List, ℕ}
use Rattle.drive_sets.specs.declared.Refusal.TheVariants.{Halted, ListenerSends, BrokenState}
use Rattle.drive_sets.specs.Lent.{fitting, size_written}
use Rattle.drive_sets.specs.Lists.{range}
use Rattle.drive_sets.specs.Refusals.{Outcome, refuse_if}
use Rattle.drive_states.specs.declared.Exchange.{Exchange}
use Rattle.drive_states.specs.State.{in_core, broken}
use Rattle.agreement.specs.Sends.{receivers}
use Rattle.c_replies.specs.declared.SizeReply.{SizeReply}
use Rattle.c_replies.specs.Replies.{size_reply}
use Rattle.c_states.specs.declared.State.{State}
use Rattle.c_states.specs.Crossing.{exchange_of}
pub mod Laws

-- the drives to which the message of a core drive in this state goes, in the order of the sends
abbrev pub list_in : Exchange → List ℕ
list_in x = receivers (range 1 x.n) x.core x.own.0

-- the same for a slice of so many places: 28, 23, 27 as of a send, and 14 last
unfoldable pub send_list : Exchange → ℕ → Outcome (List ℕ)
send_list x room =
    refuse_if (broken x) BrokenState
    (refuse_if x.halted Halted
    (refuse_if (not (in_core x)) ListenerSends
    (fitting 0 room (list_in x))))

-- how many there are; the slice afterwards is `buffer_after`
unfoldable pub list_reply : State → ℕ → SizeReply
list_reply s room = size_reply (size_written (send_list (exchange_of s) room))
