-- What each call from C answers, given the state as it is handed: the definition's answer as numbers.
use Rattle.std.specs.Prelude.{List, ℕ, length}
use Rattle.drive_sets.specs.Lent.{size_written, buffer_after}
use Rattle.agreement.specs.Calls.{opening, sending, receiving, closing}
use Rattle.exchange.specs.Replies.{not_opened}
use Rattle.c_states.specs.declared.State.{State}
use Rattle.c_states.specs.declared.StateReply.{StateReply}
use Rattle.c_replies.specs.declared.SizeReply.{SizeReply}
use Rattle.c_replies.specs.Replies.{size_reply}
use Rattle.c_states.specs.Crossing.{exchange_of, state_of, answered}
pub mod Laws

-- the version of the state's layout
unfoldable pub state_version : ℕ
state_version = 2

-- the state of a drive that was never opened
unfoldable pub unopened_state : State
unopened_state = state_of not_opened

-- ---- the four calls

unfoldable pub open_reply : State → ℕ → List ℕ → ℕ → ℕ → StateReply
open_reply s n sets own number = answered s (opening n sets own number)

unfoldable pub message_reply : State → List ℕ → StateReply
message_reply s bytes = answered s (receiving (exchange_of s) bytes)

unfoldable pub close_reply : State → StateReply
close_reply s = answered s (closing (exchange_of s))

-- into a buffer of so many bytes, from the starting place on
unfoldable pub send_reply : State → ℕ → ℕ → SizeReply
send_reply s room start = size_reply (size_written (sending (exchange_of s) room start))

-- the buffer afterwards, where it was `old`
unfoldable pub send_buffer : State → ℕ → List ℕ → List ℕ
send_buffer s start old = buffer_after (sending (exchange_of s) (length old) start) start old
