-- No call is refused with the number 0, which C reads as no refusal.
use Rattle.std.specs.Prelude.{◌≡◌, refl, true, not, List, ℕ, ◌≤◌, eqb, leb, ltb, length}
use Rattle.std.proofs.Common.{arith, leb-true, ne_eqb}
use Rattle.drive_sets.specs.Counts.{is_drive}
use Rattle.drive_sets.specs.Masks.{has}
use Rattle.drive_sets.specs.Refusals.{Outcome, refused, yields}
use Rattle.drive_sets.specs.Refusals.Numbered.{from_one, Numbered, result_numbered, if_numbered, then_numbered}
use Rattle.records.specs.declared.Due.TheVariants.{AtMessage}
use Rattle.drive_sets.specs.Lent.{size_written}
use Rattle.records.specs.Marks.{number_width, head_of}
use Rattle.survivor_tables.specs.Tables.{normal_table}
use Rattle.drive_states.specs.declared.Exchange.{Exchange}
use Rattle.drive_states.specs.State.{in_core, broken}
use Rattle.drive_states.specs.Messages.{Message, entries_in, message_bytes, length_in, message_of, wrong_mask, checked, read_message}
use Rattle.runs.specs.World.{is_refused}
use Rattle.agreement.specs.Calls.{opening, outgoing, sending, outside_core, any_differs, admitting, receiving, closing}
use Rattle.drive_sets.specs.Lent.Laws.{fitting_numbered}
use Rattle.records.specs.RecordLists.Numbered.{record_numbered}
use Rattle.survivor_tables.specs.Tables.Numbered.{normal_numbered}
use Rattle.c_states.specs.declared.State.{State}
use Rattle.c_states.specs.Crossing.{is_flagged, answered}
use Rattle.c_replies.specs.Replies.{size_reply}

-- ---- the number is set exactly where the call is refused

set_from_one : (r : ℕ) → leb 1 r ≡ true → is_flagged r ≡ true
set_from_one r h =
    let from : 1 ≤ r = leb-true 1 r h in
    rw (ne_eqb r 0 (λ e. omega (arith, from, e)))

pub refusal_set : (s : State) (o : Outcome Exchange) → Numbered o → is_flagged (answered s o).refusal ≡ is_refused o
unfolding is_refused from_one
refusal_set s (refused r) h = set_from_one r h.from
refusal_set s (yields x) h = refl

pub size_refusal_set : (o : Outcome (List ℕ)) → Numbered o → is_flagged (size_reply (size_written o)).refusal ≡ is_refused (size_written o)
unfolding is_refused from_one
size_refusal_set (refused r) h = set_from_one r h.from
size_refusal_set (yields bytes) h = refl

-- ---- the four calls: each test, and the number that it refuses with

pub opening_numbered : (n : ℕ) (sets : List ℕ) (own number : ℕ) → Numbered (opening n sets own number)
unfolding opening
opening_numbered n sets own number =
    then_numbered (normal_table n sets) _ (normal_numbered n sets) (λ table. if_numbered (not (is_drive n own)) 8 refl result_numbered)

pub sending_numbered : (x : Exchange) (room start : ℕ) → Numbered (sending x room start)
unfolding sending
sending_numbered x room start =
    if_numbered (broken x) 28 refl
    (if_numbered x.halted 23 refl
    (if_numbered (not (in_core x)) 27 refl
    (fitting_numbered start room (message_bytes (outgoing x)))))

read_numbered : (n : ℕ) (s : List ℕ) → Numbered (read_message n s)
unfolding read_message checked
read_numbered n s =
    record_numbered (head_of AtMessage s) _ (λ kind.
    let m = message_of kind s in
    if_numbered (not (is_drive n m.sender)) 8 refl
    (if_numbered (wrong_mask n m.sender m.content) 15 refl
    (if_numbered (ltb (length s) (length_in (number_width kind) m.content)) 1 refl
    (if_numbered (ltb (length_in (number_width kind) m.content) (length s)) 7 refl
    result_numbered))))

admitting_numbered : (x : Exchange) (m : Message) → Numbered (admitting x m)
unfolding admitting
admitting_numbered x m =
    if_numbered (outside_core x m) 22 refl
    (if_numbered (not (eqb m.round x.round.0)) 26 refl
    (if_numbered (not (has m.sender x.before)) 24 refl
    (if_numbered (has m.sender x.heard) 21 refl
    (if_numbered (any_differs x (entries_in m.content)) 25 refl
    result_numbered))))

pub receiving_numbered : (x : Exchange) (bytes : List ℕ) → Numbered (receiving x bytes)
unfolding receiving
receiving_numbered x bytes =
    if_numbered (broken x) 28 refl
    (if_numbered x.halted 23 refl
    (then_numbered (read_message x.n bytes) (admitting x) (read_numbered x.n bytes) (admitting_numbered x)))

pub closing_numbered : (x : Exchange) → Numbered (closing x)
unfolding closing
closing_numbered x = if_numbered (broken x) 28 refl (if_numbered x.halted 23 refl result_numbered)
