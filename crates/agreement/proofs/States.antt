-- The states of a run as functions of the abstract rounds (section 4 of docs/AGREEMENT.md, "Refinement"): what a drive
-- holds in round k + 1 once it has accepted the messages of some senders. It depends on the set of those senders and
-- not on the order in which their messages came, so that two orders of the same messages leave equal states.
use mathlib.Core.Path.{◌≡◌}
use mathlib.Core.Bool.{Bool, true, false, not, ◌&&◌, ◌||◌, cond}
use mathlib.Core.List.{List, [], ◌∷◌, map}
use mathlib.Core.Option.{Option, none, some}
use Prim.Native.Nat.{ℕ, suc, ◌≤◌, ◌<◌}
use Rattle.drive_sets.specs.declared.Pattern.{Pattern}
use Rattle.drive_sets.specs.Bools.{◌⊆◌}
use Rattle.drive_sets.specs.Options.{is_some}
use Rattle.drive_sets.specs.Lists.{range, any}
use Rattle.drive_sets.specs.Masks.{size}
use Rattle.drive_sets.specs.Masks.Tests.{set_of}
use Rattle.drive_states.specs.declared.Exchange.{Exchange}
use Rattle.drive_states.specs.declared.Announcement.{Announcement}
use Rattle.drive_states.specs.declared.Announcement.TheVariants.{Absent, By}
use Rattle.drive_states.specs.State.{pattern}
use Rattle.drive_sets.specs.Limits.{pattern_limit}
use Rattle.drive_states.specs.Messages.{Content, decided, Message, known_of, message_bytes}
use Rattle.agreement.specs.Calls.{decision_on}
use Rattle.sync_crash.specs.Rounds.{Instance, InFrame, knows, before, decision}
pub mod Numbers
pub mod Announcements
pub mod KnownSets
pub mod Rules
pub mod Sending
pub mod Receiving
pub mod Closing

-- the pattern numbers of a set of drives, drive 1 first; 0 where a drive is not in the set
unfoldable pub numbers_of : (ℕ → ℕ) → (ℕ → Bool) → List Pattern
numbers_of number p = map (λ d. pattern (cond (p d) (number d) 0)) (range 1 64)

-- the announcement of the first drive on the list that makes one, where f is what each drive announces
unfoldable pub announcement_by : ℕ → Option ℕ → Announcement → Announcement
announcement_by d none rest = rest
announcement_by d (some v) rest = By (record { 0 = d }) (record { 0 = v })

unfoldable pub announcement_of : (ℕ → Option ℕ) → List ℕ → Announcement
announcement_of f [] = Absent
announcement_of f (d ∷ ds) = announcement_by d (f d) (announcement_of f ds)

module _ (S : Instance) (k : ℕ) where
  open S use {n, core, proposal}

  -- what e knows in round k + 1 once it has accepted the messages of the senders `from`
  unfoldable pub known_from : ℕ → (ℕ → Bool) → ℕ → Bool
  known_from e from x = knows S k e x || any (λ d. from d && (not (is_some (decision S k d)) && knows S k d x)) (range 1 n)

  -- and what each of them announces
  unfoldable pub announced_from : (ℕ → Bool) → ℕ → Option ℕ
  announced_from from d =
      let decided = decision S k d in
      cond (from d) decided none

  -- the state of e then
  unfoldable pub state_of : ℕ → (ℕ → Bool) → Exchange
  state_of e from = record {
    n = n;
    own = record { 0 = e };
    core = set_of core;
    round = record { 0 = suc k };
    before = set_of (before S k e);
    heard = set_of from;
    known = set_of (known_from e from);
    start = set_of (knows S k e);
    numbers = numbers_of proposal (known_from e from);
    announced = announcement_of (announced_from from) (range 1 n);
    decision = decision_on (decision S k e);
    halted = false;
  }

  -- what d sends in round k + 1, by what it has decided, and its bytes
  unfoldable pub content_in : ℕ → Option ℕ → Content
  content_in d none = known_of (set_of (knows S k d)) proposal
  content_in d (some v) = decided v

  unfoldable pub value_of : ℕ → Message
  value_of d = record { sender = d; round = suc k; content = content_in d (decision S k d) }

  abbrev pub message_of : ℕ → List ℕ
  message_of d = message_bytes (value_of d)

-- What an exchange asks of an instance: a frame of 1 to 64 drives, a core that is not empty, and proposals that are
-- pattern numbers.
pub record Bounded (S : Instance) : Type 0 where
  pub low : 1 ≤ S.n
  pub high : S.n ≤ 64
  pub core_drive : ℕ
  pub in_core : S.core core_drive ≡ true
  pub patterns : (d : ℕ) → InFrame S d → S.proposal d < pattern_limit

-- e is in round k + 1, one of the rounds 1 to the core's size, and has accepted the messages of some core drives
pub record InRound (S : Instance) (k e : ℕ) (from : ℕ → Bool) : Type 0 where
  pub in_frame : InFrame S e
  pub round : k < size (set_of S.core)
  pub from_core : from ⊆ S.core
