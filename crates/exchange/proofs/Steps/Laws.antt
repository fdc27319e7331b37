-- The contract of each of the four calls is a step of the world that runs are made of: what it leaves, where it is
-- refused, and what a send writes.
use Rattle.std.specs.Prelude.{◌≡◌, refl, true, false, List, ℕ, Result}
use Rattle.std.proofs.Common.{sym, ◌∙◌}
use Rattle.std.proofs.Math.Path.{ap}
use Rattle.std.proofs.Math.ListN.{length}
use Rattle.drive_sets.specs.declared.Refusal.{Refusal}
use Rattle.drive_sets.specs.Bools.Laws.{clash}
use Rattle.drive_sets.specs.Refusals.{Outcome, refused, yields}
use Rattle.lent_bytes.specs.LentBuffers.{Written}
use Rattle.drive_sets.specs.Lent.{size_written}
use Rattle.lent_bytes.proofs.Buffers.{written_as}
use Rattle.drive_states.specs.declared.Exchange.{Exchange}
use Rattle.runs.specs.World as worlds
use Rattle.runs.specs.World.{Call, opens, sends, delivers, closes, drive_of, Slot, unopened, opened, World, after_call, on_state, is_refused}
use Rattle.runs.specs.World.Laws.{put_same}
use Rattle.runs.specs.Runs as any_runs
use Rattle.agreement.specs.Calls.{opening, sending, receiving, closing}
use Rattle.agreement.specs.Document01.{apply, refused_by, sending_of}
use Rattle.exchange.specs.Replies.{state_after, not_opened, Replied}
use Rattle.exchange.specs.Replies.Laws.{not_opened_sending, not_opened_receiving, not_opened_closing}
use Rattle.exchange.specs.Steps.{held, may_name, Stepped, SentFrom, leaves}

-- ---- what a call leaves

after_held : (slot : Slot) (o : Outcome Exchange) → state_after (held slot) o ≡ held (after_call slot o)
unfolding held after_call
after_held slot (refused r) = refl
after_held slot (yields x) = refl

on_held : (call : Exchange → Outcome Exchange) → call not_opened ≡ refused 28 → (slot : Slot) → state_after (held slot) (call (held slot)) ≡ held (on_state call slot)
unfolding held on_state
on_held call none unopened = ap (state_after not_opened) none
on_held call none (opened x) = after_held (opened x) (call x)

-- what a call that is handed the state kept leaves is what the world then has
pub leaves_held : (w : World) (c : Call) → leaves (held (w (drive_of c))) c ≡ held (apply w c (drive_of c))
unfolding leaves drive_of worlds.apply
leaves_held w (opens d n sets own number) = after_held (w d) (opening n sets own number) ∙ sym (ap held (put_same w d _))
leaves_held w (sends d room start) = refl
leaves_held w (delivers d bytes) = on_held (λ x. receiving x bytes) (not_opened_receiving bytes) (w d) ∙ sym (ap held (put_same w d _))
leaves_held w (closes d) = on_held closing not_opened_closing (w d) ∙ sym (ap held (put_same w d _))

-- ---- where a call is refused

pub opening_named : (slot : Slot) (d n : ℕ) (sets : List ℕ) (own number : ℕ) → may_name slot (opens d n sets own number) ≡ true
unfolding may_name
opening_named unopened d n sets own number = refl
opening_named (opened x) d n sets own number = refl

pub not_open_law : (slot : Slot) (c : Call) → may_name slot c ≡ false → held slot ≡ not_opened
unfolding held may_name
not_open_law unopened c h = refl
not_open_law (opened x) c h = absurd (clash refl h)

message_refused : (slot : Slot) (d : ℕ) (bytes : List ℕ) → may_name slot (delivers d bytes) ≡ true
    → is_refused (receiving (held slot) bytes) ≡ refused_by slot (delivers d bytes)
unfolding held may_name worlds.refused_by
message_refused unopened d bytes h = absurd (clash h refl)
message_refused (opened x) d bytes h = refl

close_refused : (slot : Slot) (d : ℕ) → may_name slot (closes d) ≡ true → is_refused (closing (held slot)) ≡ refused_by slot (closes d)
unfolding held may_name worlds.refused_by
close_refused unopened d h = absurd (clash h refl)
close_refused (opened x) d h = refl

pub size_refused : (o : Outcome (List ℕ)) → is_refused (size_written o) ≡ is_refused o
unfolding is_refused
size_refused (refused r) = refl
size_refused (yields bytes) = refl

-- a send that is handed the state kept writes what the world has the drive send, and is refused where the world says so
send_held : (slot : Slot) (d room start : ℕ) → may_name slot (sends d room start) ≡ true
    → (sending (held slot) room start ≡ sending_of slot room start) × (is_refused (size_written (sending (held slot) room start)) ≡ refused_by slot (sends d room start))
unfolding held may_name any_runs.sending_of worlds.refused_by
send_held unopened d room start h = absurd (clash h refl)
send_held (opened x) d room start h = (refl, size_refused (sending x room start))

-- ---- the contracts

module _ (w : World) (d : ℕ) where
  pub open_steps : {T : Type 0} (n : ℕ) (sets : List ℕ) (own number : ℕ) {new : Exchange} {r : Result T Refusal} → Replied (opening n sets own number) (held (w d)) new r
      → Stepped w (opens d n sets own number) new r
  unfolding leaves drive_of worlds.refused_in worlds.refused_by
  open_steps n sets own number q = record {
    state = q.state ∙ leaves_held w (opens d n sets own number);
    refuses = λ h. ap is_refused q.answer;
    not_open = λ h. absurd (clash (opening_named (w d) d n sets own number) h);
  }

  pub message_steps : {T : Type 0} (bytes : List ℕ) {new : Exchange} {r : Result T Refusal} → Replied (receiving (held (w d)) bytes) (held (w d)) new r
      → Stepped w (delivers d bytes) new r
  unfolding leaves drive_of worlds.refused_in
  message_steps bytes q = record {
    state = q.state ∙ leaves_held w (delivers d bytes);
    refuses = λ h. ap is_refused q.answer ∙ message_refused (w d) d bytes h;
    not_open = λ h. q.answer ∙ (ap (λ x. receiving x bytes) (not_open_law (w d) (delivers d bytes) h) ∙ not_opened_receiving bytes);
  }

  pub close_steps : {T : Type 0} {new : Exchange} {r : Result T Refusal} → Replied (closing (held (w d))) (held (w d)) new r → Stepped w (closes d) new r
  unfolding leaves drive_of worlds.refused_in
  close_steps q = record {
    state = q.state ∙ leaves_held w (closes d);
    refuses = λ h. ap is_refused q.answer ∙ close_refused (w d) d h;
    not_open = λ h. q.answer ∙ (ap closing (not_open_law (w d) (closes d) h) ∙ not_opened_closing);
  }

  pub send_steps : (start : ℕ) (old new : List ℕ) {r : Result ℕ Refusal} → Written (sending (held (w d)) (length old) start) start old new r
      → SentFrom w d start old new r
  unfolding worlds.apply drive_of worlds.refused_in
  send_steps start old new q =
      let room = length old in
      record {
        same = refl;
        writes = λ h. written_as (send_held (w d) d room start h).0 q;
        refuses = λ h. ap is_refused q.answer ∙ (send_held (w d) d room start h).1;
        not_open = λ h. written_as (ap (λ x. sending x room start) (not_open_law (w d) (sends d room start) h) ∙ not_opened_sending room start) q;
      }
