-- A run: a list of calls that is an opening part and then a part for each of the rounds 1 to the core's size. A part
-- has calls that are due, each once, and between them any calls that are refused. Whether a call is due does not depend
-- on whether it succeeds: a due opening, message or close counts as made whatever its answer, and a due send that is
-- refused sends nothing.
use Rattle.std.specs.Prelude.{◌≡◌, Bool, true, false, not, ◌&&◌, ◌||◌, cond, List, [], ◌∷◌, ◌++◌, ℕ, suc, eqb, length, get_or}
use Rattle.drive_sets.specs.declared.Refusal.TheVariants.{NoRoom}
use Rattle.drive_sets.specs.Lists.{filter, all, any, elem}
use Rattle.drive_sets.specs.Masks.{has, size}
use Rattle.drive_sets.specs.Refusals.{Outcome, refused, yields, number}
use Rattle.drive_sets.specs.Counts.{is_drive}
use Rattle.survivor_tables.specs.Order.{normal}
use Rattle.survivor_tables.specs.Tables.{normal_table}
use Rattle.runs.specs.Protocol.{Protocol}
use Rattle.runs.specs.World.{Call, opens, sends, delivers, closes, drive_of, Slot, unopened, opened, World, nothing_open, apply, apply_all, refused_in, active}
use Rattle.runs.specs.Scenario.{Scenario, frame, core_of, gone_before, gone_by, sends_none}
pub mod Laws

-- the two lists are equal
unfoldable pub same_list : List ℕ → List ℕ → Bool
same_list [] [] = true
same_list [] (y ∷ m) = false
same_list (x ∷ l) [] = false
same_list (x ∷ l) (y ∷ m) = eqb x y && same_list l m

-- ---- the opening part: each of the frame's drives is opened once, all from one table

-- the sets are accepted with this normal table, however they list it
unfoldable pub is_table : Outcome (List ℕ) → List ℕ → Bool
is_table (refused r) table = false
is_table (yields given) table = same_list given table

-- the call opens a drive that is not among those opened so far
unfoldable pub due_opening : Scenario → (ℕ → Bool) → Call → Bool
due_opening s done (opens d n sets own number) =
    is_drive s.n d
    && not (done d)
    && eqb n s.n
    && is_table (normal_table n sets) (normal s.sets)
    && eqb own d
    && eqb number (s.proposal d)
due_opening s done (sends d room start) = false
due_opening s done (delivers d bytes) = false
due_opening s done (closes d) = false

module _ (P : Protocol) where
  -- each call is due or refused, and in the end every drive was opened
  unfoldable pub opening_part : Scenario → (ℕ → Bool) → World → List Call → Bool
  opening_part s done w [] = all done (frame s)
  opening_part s done w (c ∷ cs) =
      (due_opening s done c || refused_in P w c)
      && opening_part s (λ d. (due_opening s done c && eqb d (drive_of c)) || done d) (apply P w c) cs

-- ---- the bookkeeping of a round

-- the call of a sender: not made yet, refused, or the bytes that it wrote
pub data Sent : Type 0 where
  pending : Sent
  failed : Sent
  wrote : List ℕ → Sent

-- what each sender's call gave, which messages were delivered (from, to), and who has closed
pub record RoundProgress : Type 0 where
  pub sent : ℕ → Sent
  pub delivered : ℕ → ℕ → Bool
  pub closed : ℕ → Bool

unfoldable pub nothing_yet : RoundProgress
nothing_yet = record { sent = λ d. pending; delivered = λ d e. false; closed = λ e. false }

unfoldable pub is_called : Sent → Bool
is_called pending = false
is_called failed = true
is_called (wrote bytes) = true

unfoldable pub wrote_just : Sent → List ℕ → Bool
wrote_just pending bytes = false
wrote_just failed bytes = false
wrote_just (wrote written) bytes = same_list written bytes

-- nothing of this sender is still to come, given whether its message was delivered
unfoldable pub settled : Sent → Bool → Bool
settled pending delivered = false
settled failed delivered = true
settled (wrote bytes) delivered = delivered

module _ (P : Protocol) where
  -- what a send gives in the state that is there; a drive that is not open is never due to send
  unfoldable pub sending_of : Slot → ℕ → ℕ → Outcome (List ℕ)
  sending_of unopened room start = refused (number NoRoom)
  sending_of (opened x) room start = P.sending x room start

unfoldable pub sent_by : Outcome (List ℕ) → Sent
sent_by (refused r) = failed
sent_by (yields bytes) = wrote bytes

unfoldable pub lacks_room : Outcome (List ℕ) → Bool
lacks_room (refused r) = eqb r (number NoRoom)
lacks_room (yields bytes) = false

-- ---- the part of round r, where w₀ is the world when it begins

-- each core drive neither halted nor gone when the round begins is called to send
unfoldable pub sender : Scenario → ℕ → World → ℕ → Bool
sender s r w₀ d = has d (core_of s) && active (w₀ d) && not (gone_before (s.crash d) r)

-- each drive not halted and with no CR up to this round closes
unfoldable pub closer : Scenario → ℕ → World → ℕ → Bool
closer s r w₀ d = is_drive s.n d && active (w₀ d) && not (gone_by (s.crash d) r)

module _ (s : Scenario) (r : ℕ) (w₀ : World) where
  -- in the end every sender was called, unless it has a CR for this round with no sends, and every closer closed;
  -- messages to a drive that does not close, having halted or having a CR up to this round, may be missing
  unfoldable pub complete : RoundProgress → Bool
  complete b =
      all (λ d. not (sender s r w₀ d) || is_called (b.sent d) || sends_none (s.crash d) r) (frame s)
      && all (λ e. not (closer s r w₀ e) || b.closed e) (frame s)

module _ (P : Protocol) (s : Scenario) (r : ℕ) (w₀ : World) where
  -- d wrote these bytes, e is on its list, and they have not been delivered to e
  unfoldable pub undelivered : RoundProgress → ℕ → List ℕ → ℕ → Bool
  undelivered b e bytes d = wrote_just (b.sent d) bytes && elem e (P.reach s r d) && not (b.delivered d e)

  -- what d sends to e in this round, if anything, has been delivered
  unfoldable pub arrived : RoundProgress → ℕ → ℕ → Bool
  arrived b e d = not (sender s r w₀ d && elem e (P.reach s r d)) || settled (b.sent d) (b.delivered d e)

  -- A send is due once, into a buffer with room; the bytes written, by one message call each, to the drives of the
  -- list; a close once, after the drive's own send and the messages to it.
  unfoldable pub due : RoundProgress → World → Call → Bool
  due b w (opens d n sets own number) = false
  due b w (sends d room start) = sender s r w₀ d && not (is_called (b.sent d)) && not (lacks_room (sending_of P (w d) room start))
  due b w (delivers e bytes) = any (undelivered b e bytes) (frame s)
  due b w (closes e) =
      closer s r w₀ e && not (b.closed e) && (not (sender s r w₀ e) || is_called (b.sent e)) && all (arrived b e) (frame s)

  -- the progress after a due call; a message is that of the first sender of which it is undelivered
  unfoldable pub noted : RoundProgress → World → Call → RoundProgress
  noted b w (opens d n sets own number) = b
  noted b w (sends d room start) = record {
    sent = λ x. cond (eqb x d) (sent_by (sending_of P (w d) room start)) (b.sent x);
    delivered = b.delivered;
    closed = b.closed;
  }
  noted b w (delivers e bytes) =
      let d = get_or (filter (undelivered b e bytes) (frame s)) 0 0 in
      record { sent = b.sent; delivered = λ x y. (eqb x d && eqb y e) || b.delivered x y; closed = b.closed }
  noted b w (closes e) = record { sent = b.sent; delivered = b.delivered; closed = λ x. eqb x e || b.closed x }

  -- each call is due or refused
  unfoldable pub round_part : RoundProgress → World → List Call → Bool
  round_part b w [] = complete s r w₀ b
  round_part b w (c ∷ cs) = (due b w c || refused_in P w c) && round_part (cond (due b w c) (noted b w c) b) (apply P w c) cs

-- ---- the whole list

module _ (P : Protocol) where
  -- the parts of the rounds r, r + 1, ..
  unfoldable pub round_parts : Scenario → ℕ → World → List (List Call) → Bool
  round_parts s r w [] = true
  round_parts s r w (p ∷ ps) = round_part P s r w nothing_yet w p && round_parts s (suc r) (apply_all P w p) ps

unfoldable pub joined : List (List Call) → List Call
joined [] = []
joined (p ∷ ps) = p ++ joined ps

-- the list is an opening part, and then a part for each of the rounds 1 to the core's size
pub record Run (P : Protocol) (s : Scenario) (calls : List Call) : Type 0 where
  pub first : List Call
  pub rounds : List (List Call)
  pub whole : calls ≡ first ++ joined rounds
  pub many : length rounds ≡ size (core_of s)
  pub opens_all : opening_part P s (λ d. false) nothing_open first ≡ true
  pub keeps_rounds : round_parts P s 1 (apply_all P nothing_open first) rounds ≡ true
