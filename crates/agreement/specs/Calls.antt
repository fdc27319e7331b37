-- The four calls of an exchange, each a total function of what it is handed: a refusal, or what the call gives. The
-- refusals of a call stand in document 01's order, and the first whose condition holds is given.
use Rattle.std.specs.Prelude.{Bool, false, not, ◌&&◌, ◌||◌, cond, List, [], ◌∷◌, ℕ, ◌+◌, ◌-◌, ltb, eqb, set, replicate}
use Rattle.std.proofs.Math.Option.{Option, none, some}
use Rattle.drive_sets.specs.declared.Pattern.{Pattern}
use Rattle.drive_sets.specs.declared.Refusal.TheVariants.{DriveNumber, AlreadyAccepted, OutsideCore, Halted, SenderMissing, PatternDiffers, OtherRound, ListenerSends, BrokenState}
use Rattle.drive_sets.specs.Lists.{smallest}
use Rattle.drive_sets.specs.Masks.{has, single, union, subset, size, drives}
use Rattle.drive_sets.specs.Refusals.{Outcome, yields, refuse_if, and_then}
use Rattle.drive_sets.specs.Lent.{fitting}
use Rattle.survivor_tables.specs.Tables.{chosen, normal_table}
use Rattle.drive_states.specs.declared.Exchange.{Exchange}
use Rattle.drive_states.specs.declared.Announcement.{Announcement}
use Rattle.drive_states.specs.declared.Announcement.TheVariants.{Absent, By}
use Rattle.drive_states.specs.declared.Decision.{Decision}
use Rattle.drive_states.specs.declared.Decision.TheVariants.{Undecided, Decided}
use Rattle.drive_sets.specs.Counts.{is_drive}
use Rattle.drive_states.specs.State.{in_core, pattern, number_of, is_decided, broken}
use Rattle.drive_states.specs.Messages.{Entry, Content, known, decided, Message, mask_in, entries_in, known_of, message_bytes, read_message}
pub mod Evaluated

-- ---- opening: the table's refusals, then 8

-- At opening a core drive knows its own number and a listener knows none, not even its own. Heard in round 0 is the
-- core. An opened drive is in round 1.
unfoldable pub initial : ℕ → ℕ → ℕ → ℕ → Exchange
initial n core own number = record {
  n = n;
  own = record { 0 = own };
  core = core;
  round = record { 0 = 1 };
  before = core;
  heard = 0;
  known = cond (has own core) (single own) 0;
  start = cond (has own core) (single own) 0;
  numbers = cond (has own core) (set (replicate 64 (pattern 0)) (own - 1) (pattern number)) (replicate 64 (pattern 0));
  announced = Absent;
  decision = Undecided;
  halted = false;
}

-- from a table, a drive number and a pattern number
unfoldable pub opening : ℕ → List ℕ → ℕ → ℕ → Outcome Exchange
opening n sets own number =
    and_then (normal_table n sets) (λ table.
    refuse_if (not (is_drive n own)) DriveNumber
    (yields (initial n (chosen table) own number)))

-- ---- send: 28, 23, 27, 14

-- an undecided core drive sends KW with all it knew when the round began; a decided one sends DW
unfoldable pub content_by : Exchange → Decision → Content
content_by x Undecided = known_of x.start (number_of x)
content_by x (Decided v) = decided v.0

unfoldable pub outgoing : Exchange → Message
outgoing x = record { sender = x.own.0; round = x.round.0; content = content_by x x.decision }

-- the bytes that are written into a buffer of the given length from the starting place on
unfoldable pub sending : Exchange → ℕ → ℕ → Outcome (List ℕ)
sending x room start =
    refuse_if (broken x) BrokenState
    (refuse_if x.halted Halted
    (refuse_if (not (in_core x)) ListenerSends
    (fitting start room (message_bytes (outgoing x)))))

-- ---- message: 28, 23, those of its bytes, then 22, 26, 24, 21, 25

-- 22: sender is oneself, or sender or a known drive is outside the core
unfoldable pub outside_core : Exchange → Message → Bool
outside_core x m =
    eqb m.sender x.own.0 || not (has m.sender x.core) || not (subset (mask_in m.content) x.core)

-- 25: a pattern number differs from the one known for that drive
unfoldable pub any_differs : Exchange → List Entry → Bool
any_differs x [] = false
any_differs x (e ∷ es) = (has e.drive x.known && not (eqb (number_of x e.drive) e.number)) || any_differs x es

-- the pattern numbers with those of the entries
unfoldable pub stored : List Pattern → List Entry → List Pattern
stored numbers [] = numbers
stored numbers (e ∷ es) = stored (set numbers (e.drive - 1) (pattern e.number)) es

-- the announcement of the lower-numbered sender
unfoldable pub lower : Announcement → ℕ → ℕ → Announcement
lower Absent d v = By (record { 0 = d }) (record { 0 = v })
lower (By e w) d v = cond (ltb d e.0) (By (record { 0 = d }) (record { 0 = v })) (By e w)

unfoldable pub announcing : Announcement → ℕ → Content → Announcement
announcing announced d (known mask entries) = announced
announcing announced d (decided v) = lower announced d v

-- the state after an accepted message: every accepted sender counts as heard, a KN or KW adds its drives' numbers, a DC
-- or DW announces a decision
unfoldable pub accept : Exchange → Message → Exchange
accept x m = record {
  n = x.n;
  own = x.own;
  core = x.core;
  round = x.round;
  before = x.before;
  heard = union x.heard (single m.sender);
  known = union x.known (mask_in m.content);
  start = x.start;
  numbers = stored x.numbers (entries_in m.content);
  announced = announcing x.announced m.sender m.content;
  decision = x.decision;
  halted = x.halted;
}

-- a message that was read: 22, 26, 24, 21, 25
unfoldable pub admitting : Exchange → Message → Outcome Exchange
admitting x m =
    refuse_if (outside_core x m) OutsideCore
    (refuse_if (not (eqb m.round x.round.0)) OtherRound
    (refuse_if (not (has m.sender x.before)) SenderMissing
    (refuse_if (has m.sender x.heard) AlreadyAccepted
    (refuse_if (any_differs x (entries_in m.content)) PatternDiffers
    (yields (accept x m))))))

-- 28, 23, then what is read, and what follows
unfoldable pub receiving : Exchange → List ℕ → Outcome Exchange
receiving x s =
    refuse_if (broken x) BrokenState
    (refuse_if x.halted Halted
    (and_then (read_message x.n s) (admitting x)))

-- ---- close: 28, 23

-- at a close, heard is the senders accepted, and oneself if in the core
unfoldable pub heard_at_close : Exchange → ℕ
heard_at_close x = cond (in_core x) (union x.heard (single x.own.0)) x.heard

-- heard is not empty and equals the round before
unfoldable pub stable : Exchange → Bool
stable x = not (eqb (heard_at_close x) 0) && eqb (heard_at_close x) x.before

unfoldable pub decision_on : Option ℕ → Decision
decision_on none = Undecided
decision_on (some v) = Decided (record { 0 = v })

-- if heard is not empty and equals the round before, decide the smallest pattern number known; else go on
unfoldable pub stable_decision : Exchange → Decision
stable_decision x = cond (stable x) (decision_on (smallest (number_of x) (drives x.known))) Undecided

-- a decided drive keeps its number; for the others: if a DC or DW came, decide the value of its lowest-numbered sender
unfoldable pub decide : Exchange → Decision → Announcement → Decision
decide x (Decided v) announced = Decided v
decide x Undecided (By d v) = Decided v
decide x Undecided Absent = stable_decision x

unfoldable pub decision_after : Exchange → Decision
decision_after x = decide x x.decision x.announced

-- a decided core drive halts at the close of the next round, a listener on deciding, and all at the close of the round
-- whose number is the core's size
unfoldable pub halts : Exchange → Bool
halts x =
    is_decided x.decision
    || (not (in_core x) && is_decided (decision_after x))
    || eqb x.round.0 (size x.core)

-- a close that does not halt the drive begins the next round, and a halted drive keeps its round number
unfoldable pub next : Exchange → Exchange
next x = record {
  n = x.n;
  own = x.own;
  core = x.core;
  round = record { 0 = cond (halts x) x.round.0 (x.round.0 + 1) };
  before = heard_at_close x;
  heard = 0;
  known = x.known;
  start = x.known;
  numbers = x.numbers;
  announced = Absent;
  decision = decision_after x;
  halted = halts x;
}

unfoldable pub closing : Exchange → Outcome Exchange
closing x =
    refuse_if (broken x) BrokenState
    (refuse_if x.halted Halted
    (yields (next x)))
