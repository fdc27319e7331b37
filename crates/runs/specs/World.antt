-- Calls on the drives of a frame, and the world that a list of calls leaves: each call gets the state that the last
-- call for its drive left, a refused one leaving it as it was.
use Rattle.std.specs.Prelude.{Bool, true, false, not, cond, List, [], ◌∷◌, ℕ, eqb}
use Rattle.drive_sets.specs.Refusals.{Outcome, refused, yields}
use Rattle.drive_states.specs.declared.Exchange.{Exchange}
use Rattle.drive_states.specs.declared.Decision.{Decision}
use Rattle.drive_states.specs.declared.Decision.TheVariants.{Undecided}
use Rattle.runs.specs.Protocol.{Protocol}
pub mod Laws

-- a call, the drive that it names first
pub data Call : Type 0 where
  opens : ℕ → ℕ → List ℕ → ℕ → ℕ → Call  -- n and sets, a drive number and a pattern number
  sends : ℕ → ℕ → ℕ → Call  -- the length of the lent buffer and the starting place in it
  delivers : ℕ → List ℕ → Call  -- the bytes of a message
  closes : ℕ → Call

unfoldable pub drive_of : Call → ℕ
drive_of (opens d n sets own number) = d
drive_of (sends d room start) = d
drive_of (delivers d bytes) = d
drive_of (closes d) = d

-- ---- the world: for each drive nothing, or its state

pub data Slot : Type 0 where
  unopened : Slot
  opened : Exchange → Slot

abbrev pub World : Type 0
World = ℕ → Slot

-- it starts with nothing open
unfoldable pub nothing_open : World
nothing_open d = unopened

unfoldable pub put : World → ℕ → Slot → World
put w d slot e = cond (eqb e d) slot (w e)

-- what a call leaves: as it was where the call is refused
unfoldable pub after_call : Slot → Outcome Exchange → Slot
after_call slot (refused r) = slot
after_call slot (yields x) = opened x

unfoldable pub on_state : (Exchange → Outcome Exchange) → Slot → Slot
on_state call unopened = unopened
on_state call (opened x) = after_call (opened x) (call x)

module _ (P : Protocol) where
  -- the world after a call; a send changes no state
  unfoldable pub apply : World → Call → World
  apply w (opens d n sets own number) = put w d (after_call (w d) (P.opening n sets own number))
  apply w (sends d room start) = w
  apply w (delivers d bytes) = put w d (on_state (λ x. P.receiving x bytes) (w d))
  apply w (closes d) = put w d (on_state P.closing (w d))

  unfoldable pub apply_all : World → List Call → World
  apply_all w [] = w
  apply_all w (c ∷ cs) = apply_all (apply w c) cs

-- ---- refused calls

module _ {A : Type 0} where
  unfoldable pub is_refused : Outcome A → Bool
  is_refused (refused r) = true
  is_refused (yields a) = false

module _ (P : Protocol) where
  -- the call is refused in the state that is there; of a drive that is not open only openings are
  unfoldable pub refused_by : Slot → Call → Bool
  refused_by slot (opens d n sets own number) = is_refused (P.opening n sets own number)
  refused_by unopened (sends d room start) = false
  refused_by (opened x) (sends d room start) = is_refused (P.sending x room start)
  refused_by unopened (delivers d bytes) = false
  refused_by (opened x) (delivers d bytes) = is_refused (P.receiving x bytes)
  refused_by unopened (closes d) = false
  refused_by (opened x) (closes d) = is_refused (P.closing x)

  unfoldable pub refused_in : World → Call → Bool
  refused_in w c = refused_by (w (drive_of c)) c

-- ---- what is seen of a drive

-- open and not halted
unfoldable pub active : Slot → Bool
active unopened = false
active (opened x) = not x.halted

unfoldable pub decision_of : Slot → Decision
decision_of unopened = Undecided
decision_of (opened x) = x.decision

-- the round that a drive is in; 0 if it is not open
unfoldable pub round_in : Slot → ℕ
round_in unopened = 0
round_in (opened x) = x.round.0
