-- What a call says that is lent a state, and what it leaves there: a refusal, which keeps the state, or the new state.
use Rattle.std.specs.Prelude.{◌≡◌, Result}
use Rattle.drive_sets.specs.declared.Refusal.{Refusal}
use Rattle.drive_sets.specs.Refusals.{Outcome, refused, yields, outcome_of}
use Rattle.drive_states.specs.declared.Exchange.{Exchange}
use Rattle.agreement.specs.Calls.{initial}
pub mod Laws

-- the state after a call that was lent a state
abbrev pub state_after : Exchange → Outcome Exchange → Exchange
state_after x (refused r) = x
state_after x (yields y) = y

-- the state of a drive that was never opened: one of no drives, which every call but an opening refuses with 28
unfoldable pub not_opened : Exchange
not_opened = initial 0 0 0 0

-- the answer of a call that was lent the state `old`, and the state that it leaves, each as its definition has it
pub record Replied {T : Type 0} (due : Outcome Exchange) (old new : Exchange) (r : Result T Refusal) : Type 0 where
  pub answer : outcome_of r new ≡ due
  pub state : new ≡ state_after old due
