-- The rounds of SyncCrash: what each drive holds after k rounds, from the proposals and the failure pattern alone.
-- Document 01, "The exchange", sentence by sentence, with no message, buffer or mask: a set of drives is a test, and
-- who is heard is a heard-of set (Charron-Bost and Merz). Section 4 of docs/AGREEMENT.md. Rounds are counted from 1, so
-- that round k + 1 begins after k rounds. The rounds go on for ever: that all halt at the close of the round whose
-- number is the core's size is left to the calls. KN and DC are what the messages say, with numbers of any width.
use Rattle.std.specs.Prelude.{◌≡◌, Bool, true, false, not, ◌&&◌, ◌||◌, cond, ◌≢◌, ℕ, zero, suc, eqb, length}
use Rattle.std.specs.Bool.{beq}
use Rattle.std.proofs.Math.Option.{Option, none, some, or_else}
use Rattle.drive_sets.specs.Options.{is_some}
use Rattle.drive_sets.specs.Lists.{range, filter, all, any, elem, smallest, first_some}

-- One instance of consensus: the drives (processes) 1 to n, the core, the number that each drive proposes, and the
-- failure pattern, which says who has crashed by when and whom a drive still reaches in the round in which it crashes.
pub record Instance : Type 0 where
  pub n : ℕ
  pub core : ℕ → Bool
  pub proposal : ℕ → ℕ
  pub alive : ℕ → ℕ → Bool  -- alive k d: d has no CR up to round k
  pub reach : ℕ → ℕ → ℕ → Bool  -- reach k d e: e is among those to whom d makes a send, if it sends in round k + 1

-- d is one of the drives
abbrev pub InFrame : Instance → ℕ → Type 0
InFrame S d = elem d (range 1 S.n) ≡ true

-- What is assumed of an instance.
pub record Lawful (S : Instance) : Type 0 where
  -- the core's drives are drives of the frame
  pub in_frame : {d : ℕ} → S.core d ≡ true → InFrame S d
  -- a drive that has crashed does not come back
  pub no_return : {k d : ℕ} → S.alive (suc k) d ≡ true → S.alive k d ≡ true
  -- a core drive that does not crash in a round makes all its sends of that round
  pub full_reach : {k d e : ℕ} → S.core d ≡ true → S.alive (suc k) d ≡ true → InFrame S e → e ≢ d → S.reach k d e ≡ true
  -- a sender sends to the other core drives, then to the listeners
  pub core_first : {k d e c : ℕ} → S.reach k d e ≡ true → S.core e ≡ false → S.core c ≡ true → c ≢ d → S.reach k d c ≡ true

-- What a drive holds between two rounds.
pub record View : Type 0 where
  pub knows : ℕ → Bool  -- the drives whose numbers it knows
  pub before : ℕ → Bool  -- the drives that it heard in the round before
  pub decision : Option ℕ
  pub halted : Bool

module _ (S : Instance) where
  open S use {n, core, proposal, alive, reach}

  -- At opening a core drive knows its own number and a listener knows none, not even its own. Heard in round 0 is the
  -- core.
  unfoldable pub start : ℕ → View
  start e = record { knows = λ x. core e && eqb x e; before = core; decision = none; halted = false }

  -- the smallest number that the drives of a set propose
  unfoldable pub smallest_of : (ℕ → Bool) → Option ℕ
  smallest_of p = smallest proposal (filter p (range 1 n))

  -- Round k + 1, where `view` is what each drive holds when it begins.
  module _ (view : ℕ → View) (k : ℕ) where
    -- Core drives talk: each that has neither halted nor crashed before the round.
    unfoldable pub sends : ℕ → Bool
    sends d = core d && (not (view d).halted && alive k d)

    -- a message of d comes to e
    unfoldable pub reaches : ℕ → ℕ → Bool
    reaches d e = sends d && reach k d e

    -- An undecided core drive sends KN with all it knew when the round began; an accepted KN adds its drives' numbers.
    unfoldable pub adds : ℕ → ℕ → ℕ → Bool
    adds d e x = reaches d e && (not (is_some (view d).decision) && (view d).knows x)

    unfoldable pub known : ℕ → ℕ → Bool
    known e x = (view e).knows x || any (λ d. adds d e x) (range 1 n)

    -- A decided one sends DC: the number that d announces to e.
    unfoldable pub announces : ℕ → ℕ → Option ℕ
    announces d e =
        let decided = (view d).decision in
        cond (reaches d e) decided none

    -- the value of the lowest-numbered DC sender
    unfoldable pub announced : ℕ → Option ℕ
    announced e = first_some (λ d. announces d e) (range 1 n)

    -- At a close, heard is the senders accepted, and oneself if in the core.
    unfoldable pub heard : ℕ → ℕ → Bool
    heard e d = reaches d e || (core e && eqb d e)

    -- d is heard just if it was in the round before
    unfoldable pub unchanged : ℕ → ℕ → Bool
    unchanged e d = beq (heard e d) ((view e).before d)

    -- heard is not empty and equals the round before
    unfoldable pub stable : ℕ → Bool
    stable e = any (heard e) (range 1 n) && all (unchanged e) (range 1 n)

    -- then decide the smallest pattern number known
    unfoldable pub if_stable : ℕ → Option ℕ
    if_stable e =
        let choice = smallest_of (known e) in
        cond (stable e) choice none

    -- A decided drive keeps its number. For the others: if a DC came, decide the value of the lowest-numbered DC
    -- sender. Else, if heard is not empty and equals the round before, decide the smallest pattern number known. Else
    -- go on.
    unfoldable pub decides : ℕ → Option ℕ
    decides e = or_else (view e).decision (or_else (announced e) (if_stable e))

    -- A decided core drive halts at the close of the round in which it sends DC; a listener halts on deciding.
    unfoldable pub halts : ℕ → Bool
    halts e = is_some (view e).decision || (not (core e) && is_some (decides e))

    -- Each drive of the frame that has not halted and has no CR up to this round closes.
    unfoldable pub closes : ℕ → Bool
    closes e = elem e (range 1 n) && (not (view e).halted && alive (suc k) e)

    unfoldable pub closed : ℕ → View
    closed e = record { knows = known e; before = heard e; decision = decides e; halted = halts e }

    unfoldable pub step : ℕ → View
    step e =
        let next = closed e in
        let same = view e in
        cond (closes e) next same

  -- what each drive holds after k rounds
  unfoldable pub after : ℕ → ℕ → View
  after zero = start
  after (suc k) = step (after k) k

  -- and its parts
  abbrev pub knows : ℕ → ℕ → ℕ → Bool
  knows k e = (after k e).knows

  abbrev pub before : ℕ → ℕ → ℕ → Bool
  before k e = (after k e).before

  abbrev pub decision : ℕ → ℕ → Option ℕ
  decision k e = (after k e).decision

  abbrev pub halted : ℕ → ℕ → Bool
  halted k e = (after k e).halted

  -- A drive stays up if it has no CR.
  abbrev pub StaysUp : ℕ → Type 0
  StaysUp d = (k : ℕ) → alive k d ≡ true

  -- f is the number of core drives with a CR, where `correct` is the set of the drives with none.
  abbrev pub failures : (ℕ → Bool) → ℕ
  failures correct = length (filter (λ d. core d && not (correct d)) (range 1 n))

-- A drive decides on a number in round k + 1 if its close leaves it decided on that number and the closes before left
-- it undecided.
pub record DecidesIn (S : Instance) (e v k : ℕ) : Type 0 where
  pub undecided : decision S k e ≡ none
  pub decided : decision S (suc k) e ≡ some v
