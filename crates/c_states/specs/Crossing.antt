-- A drive's state as a struct of numbers, for C, and back, and the reply of a call that was handed one. Whatever the
-- numbers are, they say a state.
use Rattle.std.specs.Prelude.{Bool, not, cond, ℕ, eqb, replicate}
use Rattle.drive_sets.specs.declared.Drive.{Drive}
use Rattle.drive_sets.specs.declared.Pattern.{Pattern}
use Rattle.drive_sets.specs.Refusals.{Outcome, refused, yields}
use Rattle.drive_states.specs.declared.Exchange.{Exchange}
use Rattle.drive_states.specs.declared.Announcement.{Announcement}
use Rattle.drive_states.specs.declared.Announcement.TheVariants.{Absent, By}
use Rattle.drive_states.specs.declared.Decision.{Decision}
use Rattle.drive_states.specs.declared.Decision.TheVariants.{Undecided, Decided}
use Rattle.drive_states.specs.State.{pattern}
use Rattle.c_replies.specs.Replies.{flag_of}
use Rattle.c_states.specs.declared.State.{State}
use Rattle.c_states.specs.declared.StateReply.{StateReply}
pub mod Laws

-- ---- from numbers: a flag is set where it is not 0

abbrev pub is_flagged : ℕ → Bool
is_flagged f = not (eqb f 0)

abbrev pub announcement_in : State → Announcement
announcement_in s = cond (eqb s.announced 0) Absent (By s.by s.told)

abbrev pub decision_in : State → Decision
decision_in s = cond (eqb s.decided 0) Undecided (Decided s.decision)

abbrev pub exchange_of : State → Exchange
exchange_of s = record {
  n = s.n;
  own = s.own;
  core = s.core;
  round = s.round;
  before = s.before;
  heard = s.heard;
  known = s.known;
  start = s.start;
  numbers = s.numbers;
  announced = announcement_in s;
  decision = decision_in s;
  halted = is_flagged s.halted;
}

-- ---- to numbers: a flag is 1 or 0, and what it says does not count is 0

abbrev pub announced_flag : Announcement → ℕ
announced_flag Absent = 0
announced_flag (By d v) = 1

abbrev pub announced_drive : Announcement → Drive
announced_drive Absent = record { 0 = 0 }
announced_drive (By d v) = d

abbrev pub announced_number : Announcement → Pattern
announced_number Absent = pattern 0
announced_number (By d v) = v

abbrev pub decided_flag : Decision → ℕ
decided_flag Undecided = 0
decided_flag (Decided v) = 1

abbrev pub decided_number : Decision → Pattern
decided_number Undecided = pattern 0
decided_number (Decided v) = v

abbrev pub state_of : Exchange → State
state_of x = record {
  core = x.core;
  before = x.before;
  heard = x.heard;
  known = x.known;
  start = x.start;
  numbers = x.numbers;
  told = announced_number x.announced;
  decision = decided_number x.decision;
  n = x.n;
  own = x.own;
  round = x.round;
  announced = announced_flag x.announced;
  by = announced_drive x.announced;
  decided = decided_flag x.decision;
  halted = flag_of x.halted;
  reserved = replicate 1 0;
}

-- ---- replies

-- an accepted call gives the new state; a refused one its number, and the state as it was handed
abbrev pub answered : State → Outcome Exchange → StateReply
answered s (refused r) = record { state = s; refusal = r }
answered s (yields x) = record { state = state_of x; refusal = 0 }
