-- A controller that makes the four calls of several drives: it keeps for each drive the state that its last call left,
-- and hands it to the next. What one call does so, and a list of them, is what the worlds of a run have; the laws say
-- so.
use Rattle.std.specs.Prelude.{◌≡◌, Bool, true, false, cond, List, [], ◌∷◌, ℕ, eqb, length, Result}
use Rattle.drive_sets.specs.declared.Refusal.{Refusal}
use Rattle.drive_sets.specs.Refusals.{refused, outcome, outcome_of}
use Rattle.lent_bytes.specs.LentBuffers.{Written}
use Rattle.drive_states.specs.declared.Exchange.{Exchange}
use Rattle.runs.specs.World.{Call, opens, sends, delivers, closes, drive_of, Slot, unopened, opened, World, is_refused}
use Rattle.agreement.specs.Calls.{opening, receiving, closing}
use Rattle.agreement.specs.Document01.{apply, refused_in, sending_of}
use Rattle.exchange.specs.Replies.{state_after, not_opened}

-- ---- one call

-- what is kept for a drive: before it is open, the state of one that was never opened
unfoldable pub held : Slot → Exchange
held unopened = not_opened
held (opened x) = x

-- before a drive is open only openings name it
unfoldable pub may_name : Slot → Call → Bool
may_name (opened x) c = true
may_name unopened (opens d n sets own number) = true
may_name unopened (sends d room start) = false
may_name unopened (delivers d bytes) = false
may_name unopened (closes d) = false

-- an opening, a message or a close is the step of the world: the state that it leaves is what the drive then has, and
-- it is refused where the world says so; a call that may not name its drive is refused with 28
pub record Stepped {T : Type 0} (w : World) (c : Call) (new : Exchange) (r : Result T Refusal) : Type 0 where
  pub state : new ≡ held (apply w c (drive_of c))
  pub refuses : may_name (w (drive_of c)) c ≡ true → is_refused (outcome_of r new) ≡ refused_in w c
  pub not_open : may_name (w (drive_of c)) c ≡ false → outcome_of r new ≡ refused 28

-- a send changes no state; of an open drive it writes what the world has it send, and of another it is refused with 28
pub record SentFrom (w : World) (d start : ℕ) (old new : List ℕ) (r : Result ℕ Refusal) : Type 0 where
  pub same : apply w (sends d (length old) start) ≡ w
  pub writes : may_name (w d) (sends d (length old) start) ≡ true → Written (sending_of (w d) (length old) start) start old new r
  pub refuses : may_name (w d) (sends d (length old) start) ≡ true → is_refused (outcome r) ≡ refused_in w (sends d (length old) start)
  pub not_open : may_name (w d) (sends d (length old) start) ≡ false → Written (refused 28) start old new r

-- ---- a list of calls

-- the state that the call leaves where it is handed x; a send leaves it as it is
unfoldable pub leaves : Exchange → Call → Exchange
leaves x (opens d n sets own number) = state_after x (opening n sets own number)
leaves x (sends d room start) = x
leaves x (delivers d bytes) = state_after x (receiving x bytes)
leaves x (closes d) = state_after x (closing x)

-- what is kept for each drive, where a call that is handed s leaves `left s c`
module _ {S : Type 0} (left : S → Call → S) where
  -- the call is handed what is kept for its drive, and what it leaves is kept
  unfoldable pub keep : (ℕ → S) → Call → ℕ → S
  keep store c d = cond (eqb d (drive_of c)) (left (store d) c) (store d)

  unfoldable pub keep_all : (ℕ → S) → List Call → ℕ → S
  keep_all store [] = store
  keep_all store (c ∷ cs) = keep_all (keep store c) cs
