-- Calls that are not refused: what the call gives where each condition fails, in document 01's order; and a send with
-- too little room.
use mathlib.Core.Path.{◌≡◌, refl, sym, ap}
use mathlib.Core.Bool.{true, false, not}
use mathlib.Core.List.{List, [], ◌∷◌, map}
use mathlib.Core.Option.{Option, none, some}
use Prim.Native.Nat.{ℕ, ◌+◌, ◌≤◌, ◌<◌}
use lib.Dec.{eqb}
use lib.ListN.{length}
use borrow.Author.Tests.{le-leb, lt-leb, eq-eqb}
use Rattle.drive_sets.specs.declared.Pattern.{Pattern}
use Rattle.drive_sets.specs.declared.Refusal.TheVariants.{DriveNumber, NoRoom, AlreadyAccepted, OutsideCore, Halted, SenderMissing, PatternDiffers, OtherRound, BrokenState}
use Rattle.drive_sets.specs.Bools.Laws.{by_test, and_fails_left, and_fails_right, or_neither}
use Rattle.drive_sets.specs.Options.{is_some}
use Rattle.drive_sets.specs.Lists.{elem}
use Rattle.drive_sets.specs.Lists.Laws.{elem_head, elem_tail}
use Rattle.drive_sets.specs.Masks.{has}
use Rattle.drive_sets.specs.Refusals.{Outcome, refused, yields, refuse_if, number}
use Rattle.drive_sets.specs.Refusals.Laws.{same_result, passed, first_result}
use Rattle.drive_sets.specs.Lent.{fitting}
use Rattle.survivor_tables.specs.Tables.{chosen, normal_table}
use Rattle.drive_states.specs.declared.Exchange.{Exchange}
use Rattle.drive_states.specs.declared.Decision.TheVariants.{Undecided, Decided}
use Rattle.drive_sets.specs.Counts.{is_drive}
use Rattle.drive_states.specs.State.{in_core, number_of, is_decided, broken}
use Rattle.drive_states.specs.Messages.{Message, entry_of, entries_in, message_bytes, read_message}
use Rattle.agreement.specs.Calls.{initial, opening, outgoing, sending, outside_core, any_differs, accept, admitting, receiving, decision_on, next, closing}

pub opening_accepted : (n : ℕ) (sets table : List ℕ) (own number : ℕ) → normal_table n sets ≡ yields table → is_drive n own ≡ true
    → opening n sets own number ≡ yields (initial n (chosen table) own number)
unfolding opening
opening_accepted n sets table own number accepted drive = rw (accepted, drive)

-- an opening depends on the table and not on the listing of its sets
pub opening_same_table : (n : ℕ) (sets other : List ℕ) (own number : ℕ) → normal_table n sets ≡ normal_table n other
    → opening n sets own number ≡ opening n other own number
unfolding opening
opening_same_table n sets other own number same = rw same

-- an opening that is not refused
pub opened_initial : (n : ℕ) (sets : List ℕ) (own number : ℕ) {y : Exchange} → opening n sets own number ≡ yields y → (core : ℕ) × (y ≡ initial n core own number)
unfolding opening
opened_initial n sets own number e =
    let t = first_result (normal_table n sets) _ e in (chosen t.0, sym (same_result (passed (not (is_drive n own)) DriveNumber _ t.2).1))

-- entries that agree with what is known do not meet 25
pub none_differs : (x : Exchange) (number : ℕ → ℕ) (ds : List ℕ) → ((d : ℕ) → elem d ds ≡ true → has d x.known ≡ true → number_of x d ≡ number d)
    → any_differs x (map (entry_of number) ds) ≡ false
unfolding any_differs
none_differs x number [] same = refl
none_differs x number (d ∷ ds) same =
    or_neither
    (by_test (has d x.known)
    (λ h. and_fails_right (has d x.known) (ap not (eq-eqb (number_of x d) (number d) (same d (elem_head d ds) h))))
    (λ h. and_fails_left (not (eqb (number_of x d) (number d))) h))
    (none_differs x number ds (λ y e. same y (elem_tail y d ds e)))

-- a message that meets no refusal
pub record Acceptable (x : Exchange) (m : Message) : Type 0 where
  pub core : outside_core x m ≡ false
  pub round : m.round ≡ x.round.0
  pub before : has m.sender x.before ≡ true
  pub heard : has m.sender x.heard ≡ false
  pub same : any_differs x (entries_in m.content) ≡ false

admitting_accepted : (x : Exchange) (m : Message) → Acceptable x m → admitting x m ≡ yields (accept x m)
unfolding admitting
admitting_accepted x m ok = rw (ok.core, eq-eqb m.round x.round.0 ok.round, ok.before, ok.heard, ok.same)

module _ (x : Exchange) (sound : broken x ≡ false) (running : x.halted ≡ false) where
  -- 28 and 23 are not met
  started : {A : Type 0} {rest given : Outcome A} → rest ≡ given → refuse_if (broken x) BrokenState (refuse_if x.halted Halted rest) ≡ given
  started e = rw (sound, running) e

  pub sending_accepted : (room start : ℕ) → in_core x ≡ true → start + length (message_bytes (outgoing x)) ≤ room → sending x room start ≡ yields (message_bytes (outgoing x))
  unfolding sending fitting
  sending_accepted room start core fits = started (rw (core, le-leb (start + length (message_bytes (outgoing x))) room fits))

  -- where the sent bytes do not fit, 14 is the refusal
  pub sending_crowded : (room start : ℕ) → in_core x ≡ true → room < start + length (message_bytes (outgoing x)) → sending x room start ≡ refused (number NoRoom)
  unfolding sending fitting
  sending_crowded room start core crowded = started (rw (core, lt-leb (start + length (message_bytes (outgoing x))) room crowded))

  pub closing_accepted : closing x ≡ yields (next x)
  unfolding closing
  closing_accepted = started refl

  pub receiving_accepted : (s : List ℕ) (m : Message) → read_message x.n s ≡ yields m → Acceptable x m → receiving x s ≡ yields (accept x m)
  unfolding receiving
  receiving_accepted s m read ok = started (rw read (admitting_accepted x m ok))

-- ---- calls that were not refused

-- 28 and 23 were not met
began : {A : Type 0} (x : Exchange) (rest : Outcome A) {a : A} → refuse_if (broken x) BrokenState (refuse_if x.halted Halted rest) ≡ yields a
    → (x.halted ≡ false) × (rest ≡ yields a)
began x rest e = passed x.halted Halted rest (passed (broken x) BrokenState _ e).1

pub closed_next : (x : Exchange) {y : Exchange} → closing x ≡ yields y → y ≡ next x
unfolding closing
closed_next x e = sym (same_result (began x _ e).1)

admitted : (x : Exchange) (m : Message) {y : Exchange} → admitting x m ≡ yields y → y ≡ accept x m
unfolding admitting
admitted x m e =
    let round = (passed (not (eqb m.round x.round.0)) OtherRound _ (passed (outside_core x m) OutsideCore _ e).1).1 in
    let fresh = (passed (has m.sender x.heard) AlreadyAccepted _ (passed (not (has m.sender x.before)) SenderMissing _ round).1).1 in
    sym (same_result (passed (any_differs x (entries_in m.content)) PatternDiffers _ fresh).1)

-- a message taken in: the drive had not halted
pub received : (x : Exchange) (s : List ℕ) {y : Exchange} → receiving x s ≡ yields y → (x.halted ≡ false) × (m : Message) × (y ≡ accept x m)
unfolding receiving
received x s e =
    let b = began x _ e in
    let r = first_result (read_message x.n s) (admitting x) b.1 in
    (b.0, r.0, admitted x r.0 r.2)

-- ---- decisions as optional numbers

pub decided_on : (o : Option ℕ) → is_decided (decision_on o) ≡ is_some o
unfolding is_decided decision_on
decided_on none = refl
decided_on (some v) = refl

pub undecided_none : (o : Option ℕ) → decision_on o ≡ Undecided → o ≡ none
unfolding decision_on
undecided_none none h = refl
undecided_none (some v) h = cc

pub decided_some : (o : Option ℕ) {v : ℕ} → decision_on o ≡ Decided (record { 0 = v }) → o ≡ some v
unfolding decision_on
decided_some none h = cc
decided_some (some w) {v} h = let same : ◌≡◌ {A = Pattern} (record { 0 = w }) (record { 0 = v }) = cc in ap (λ (p : Pattern). some p.0) same
