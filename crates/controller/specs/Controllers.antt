-- A controller in C: it keeps for each drive the state that the last call for the drive handed back, and hands that to
-- the next. Demand 3 of it: whatever states it began with, what it keeps of open drives is what the worlds of a run
-- have, and so every drive that stays up reads the agreed number in the fields of its state.
use Rattle.std.specs.Prelude.{◌≡◌, true, false, List, [], ◌∷◌, ◌++◌, ℕ, length}
use Rattle.drive_sets.specs.Lent.{size_written, buffer_after}
use Rattle.drive_states.specs.declared.Exchange.{Exchange}
use Rattle.drive_states.specs.State.{pattern}
use Rattle.runs.specs.World.{Call, opens, sends, delivers, closes, drive_of, unopened, opened, World, nothing_open}
use Rattle.runs.specs.Scenario.{Scenario}
use Rattle.runs.specs.Statement.{Valid, Untouched, Up, DecidesAfter, calls_before, Agreed}
use Rattle.agreement.specs.Document01.{apply_all, refused_in, sending_of, Run}
use Rattle.exchange.specs.Steps.{may_name, keep_all}
use Rattle.c_replies.specs.Replies.{size_reply}
use Rattle.c_states.specs.declared.State.{State}
use Rattle.c_states.specs.Crossing.{is_flagged, state_of}
use Rattle.controller.specs.Replies.{unopened_state, open_reply, message_reply, close_reply, send_reply, send_buffer}
pub mod Laws

-- ---- what a controller keeps

-- the state that a call hands back where it is handed s; a send hands back none, and s is kept
unfoldable pub handed_back : State → Call → State
handed_back s (opens d n sets own number) = (open_reply s n sets own number).state
handed_back s (sends d room start) = s
handed_back s (delivers d bytes) = (message_reply s bytes).state
handed_back s (closes d) = (close_reply s).state

-- the refusal's number, 0 for none
unfoldable pub refusal_to : State → Call → ℕ
refusal_to s (opens d n sets own number) = (open_reply s n sets own number).refusal
refusal_to s (sends d room start) = (send_reply s room start).refusal
refusal_to s (delivers d bytes) = (message_reply s bytes).refusal
refusal_to s (closes d) = (close_reply s).refusal

-- a state for each drive
abbrev pub Store : Type 0
Store = ℕ → State

-- what is kept after some calls, from what is there before them: anything at all, such as what `regdulyn_unopened`
-- gives, structs of zeros or what an exchange before left
unfoldable pub kept_from : Store → List Call → Store
kept_from = keep_all handed_back

-- ---- what is proved of it

-- the world after some calls
abbrev pub world_after : List Call → World
world_after = apply_all nothing_open

-- after any list of calls, whether it is a run or not, from any states
pub record KeepsWorld (store : Store) (calls : List Call) : Type 0 where
  -- for each open drive the world's state as numbers
  pub states : (d : ℕ) (x : Exchange) → world_after calls d ≡ opened x → kept_from store calls d ≡ state_of x
  -- the next call is refused, with a number that is not 0, exactly where the world says so
  pub refusals : (c : Call) → may_name (world_after calls (drive_of c)) c ≡ true
      → is_flagged (refusal_to (kept_from store calls (drive_of c)) c) ≡ refused_in (world_after calls) c
  -- a send of an open drive gives the size of what the world has it send, and the buffer has those bytes
  pub sizes : (d : ℕ) (x : Exchange) → world_after calls d ≡ opened x → (room start : ℕ)
      → send_reply (kept_from store calls d) room start ≡ size_reply (size_written (sending_of (world_after calls d) room start))
  pub written : (d : ℕ) (x : Exchange) → world_after calls d ≡ opened x → (start : ℕ) (old : List ℕ)
      → send_buffer (kept_from store calls d) start old ≡ buffer_after (sending_of (world_after calls d) (length old) start) start old
  -- a drive whose state is first what `regdulyn_unopened` gives has that until it is open; until then calls other than
  -- openings are refused with 28
  pub unopened_stays : (d : ℕ) → store d ≡ unopened_state → world_after calls d ≡ unopened → kept_from store calls d ≡ unopened_state
  pub not_open : (c : Call) → store (drive_of c) ≡ unopened_state → may_name (world_after calls (drive_of c)) c ≡ false
      → refusal_to (kept_from store calls (drive_of c)) c ≡ 28

-- the fields of a state say a decision on v
pub record Reads (s : State) (v : ℕ) : Type 0 where
  pub decided : s.decided ≡ 1
  pub decision : s.decision ≡ pattern v

-- of a run: demand 3, and what the states then read, whatever states there were before it
pub record AgreedFromC {s : Scenario} {calls : List Call} (run : Run s calls) : Type 0 where
  pub agreed : Agreed run
  -- after the whole list every drive that stays up reads the agreed number
  pub final : (store : Store) (d : ℕ) → Up s d → Reads (kept_from store calls d) agreed.value
  -- and a drive that decides on a number in a round reads it as soon as it has closed that round
  pub at_close : (store : Store) (d v k : ℕ) (h : DecidesAfter run d v k)
      → Reads (kept_from store (calls_before run k ++ h.earlier ++ (closes d ∷ [])) d) v

-- demand 3 of controllers in C
pub record ControllersAgree : Type 0 where
  pub keeps : (store : Store) (calls : List Call) → KeepsWorld store calls
  pub agree : (s : Scenario) → Valid s → Untouched s → (calls : List Call) (run : Run s calls) → AgreedFromC run
