-- A controller in C keeps what the worlds of a run have, since a state that is taken across and back is the same, and
-- an accepted opening hands back a state that does not depend on the one that it is handed. So demand 3 holds of it.
use Rattle.std.specs.Prelude.{◌≡◌, refl, true, false, List, ℕ, length}
use Rattle.std.proofs.Math.Path.{sym, ap}
use Rattle.std.proofs.Common.{◌∙◌}
use Rattle.drive_sets.specs.Bools.Laws.{clash}
use Rattle.drive_sets.specs.Refusals.{Outcome, refused, yields}
use Rattle.drive_sets.specs.Lent.{size_written, buffer_after}
use Rattle.drive_states.specs.declared.Exchange.{Exchange}
use Rattle.drive_states.specs.declared.Decision.TheVariants.{Decided}
use Rattle.drive_states.specs.State.{pattern}
use Rattle.runs.specs.World as worlds
use Rattle.runs.specs.World.{Call, opens, sends, delivers, closes, drive_of, Slot, unopened, opened, is_refused, decision_of}
use Rattle.runs.specs.Runs as any_runs
use Rattle.runs.specs.Statement.{Agreement}
use Rattle.agreement.specs.Calls.{opening, sending, receiving, closing}
use Rattle.agreement.specs.Document01.{refused_by, sending_of}
use Rattle.agreement.proofs.Theorems.{agreement}
use Rattle.exchange.specs.Replies.{state_after, not_opened}
use Rattle.exchange.specs.Replies.Laws.{not_opened_sending, not_opened_receiving, not_opened_closing}
use Rattle.exchange.specs.Steps.{held, may_name, leaves}
use Rattle.exchange.proofs.Steps.Laws.{opening_named, not_open_law, size_refused}
use Rattle.exchange.proofs.Steps.Kept.{kept_held, kept_open, decided_open}
use Rattle.c_states.specs.declared.State.{State}
use Rattle.c_states.specs.Crossing.{is_flagged, exchange_of, decided_flag, decided_number, state_of, answered}
use Rattle.c_states.specs.Crossing.Laws.{there_and_back}
use Rattle.c_replies.specs.Replies.{size_reply}
use Rattle.controller.specs.Replies.{unopened_state, open_reply, message_reply, close_reply, send_reply, send_buffer}
use Rattle.controller.specs.Replies.Laws.{refusal_set, size_refusal_set, opening_numbered, sending_numbered, receiving_numbered, closing_numbered}
use Rattle.controller.specs.Controllers.{handed_back, refusal_to, Store, kept_from, world_after, KeepsWorld, Reads, ControllersAgree}

-- ---- the states

answered_state : (x : Exchange) (o : Outcome Exchange) → (answered (state_of x) o).state ≡ state_of (state_after x o)
answered_state x (refused r) = refl
answered_state x (yields y) = refl

called_state : (call : Exchange → Outcome Exchange) (x : Exchange) → (answered (state_of x) (call (exchange_of (state_of x)))).state ≡ state_of (state_after x (call x))
called_state call x = ap (λ (y : Exchange). (answered (state_of x) (call y)).state) (there_and_back x) ∙ answered_state x (call x)

-- what a call hands back is what it leaves, as numbers
handed_back_law : (x : Exchange) (c : Call) → handed_back (state_of x) c ≡ state_of (leaves x c)
unfolding handed_back leaves open_reply message_reply close_reply
handed_back_law x (opens d n sets own number) = answered_state x (opening n sets own number)
handed_back_law x (sends d room start) = refl
handed_back_law x (delivers d bytes) = called_state (λ y. receiving y bytes) x
handed_back_law x (closes d) = called_state closing x

-- an accepted opening hands back its result, whatever it is handed
opened_fresh : (s : State) (d n : ℕ) (sets : List ℕ) (own number : ℕ) (y : Exchange) → opening n sets own number ≡ yields y
    → handed_back s (opens d n sets own number) ≡ state_of y
unfolding handed_back open_reply
opened_fresh s d n sets own number y e = ap (λ (o : Outcome Exchange). (answered s o).state) e

module _ (store : Store) (calls : List Call) where
  open_states : (d : ℕ) (x : Exchange) → world_after calls d ≡ opened x → kept_from store calls d ≡ state_of x
  unfolding kept_from
  open_states = kept_open handed_back state_of handed_back_law opened_fresh store calls

  open_back : (d : ℕ) (x : Exchange) → world_after calls d ≡ opened x → exchange_of (kept_from store calls d) ≡ x
  open_back d x there = ap exchange_of (open_states d x there) ∙ there_and_back x

  open_sends : (d : ℕ) (x : Exchange) → world_after calls d ≡ opened x → (room start : ℕ)
      → sending (exchange_of (kept_from store calls d)) room start ≡ sending_of (world_after calls d) room start
  unfolding any_runs.sending_of
  open_sends d x there room start =
      ap (λ (y : Exchange). sending y room start) (open_back d x there) ∙ sym (ap (λ (slot : Slot). sending_of slot room start) there)

  unopened_states : (d : ℕ) → store d ≡ unopened_state → kept_from store calls d ≡ state_of (held (world_after calls d))
  unfolding kept_from unopened_state
  unopened_states = kept_held handed_back state_of handed_back_law store calls

-- ---- the refusals

module _ (s : State) where
  refused_alike : (slot : Slot) → ((x : Exchange) → slot ≡ opened x → exchange_of s ≡ x) → (c : Call) → may_name slot c ≡ true
      → is_flagged (refusal_to s c) ≡ refused_by slot c
  unfolding refusal_to open_reply message_reply close_reply send_reply worlds.refused_by may_name
  refused_alike slot is (opens d n sets own number) h = refusal_set s _ (opening_numbered n sets own number)
  refused_alike unopened is (sends d room start) h = absurd (clash h refl)
  refused_alike unopened is (delivers d bytes) h = absurd (clash h refl)
  refused_alike unopened is (closes d) h = absurd (clash h refl)
  refused_alike (opened x) is (sends d room start) h =
      size_refusal_set _ (sending_numbered (exchange_of s) room start)
      ∙ (ap (λ (y : Exchange). is_refused (size_written (sending y room start))) (is x refl) ∙ size_refused (sending x room start))
  refused_alike (opened x) is (delivers d bytes) h =
      refusal_set s _ (receiving_numbered (exchange_of s) bytes) ∙ ap (λ (y : Exchange). is_refused (receiving y bytes)) (is x refl)
  refused_alike (opened x) is (closes d) h =
      refusal_set s _ (closing_numbered (exchange_of s)) ∙ ap (λ (y : Exchange). is_refused (closing y)) (is x refl)

  -- of one that was never opened
  refused_not_open : exchange_of s ≡ not_opened → (slot : Slot) (c : Call) → may_name slot c ≡ false → refusal_to s c ≡ 28
  unfolding refusal_to message_reply close_reply send_reply
  refused_not_open never slot (opens d n sets own number) h = absurd (clash (opening_named slot d n sets own number) h)
  refused_not_open never slot (sends d room start) h =
      ap (λ o. (size_reply (size_written o)).refusal) (ap (λ (x : Exchange). sending x room start) never ∙ not_opened_sending room start)
  refused_not_open never slot (delivers d bytes) h =
      ap (λ (o : Outcome Exchange). (answered s o).refusal) (ap (λ (x : Exchange). receiving x bytes) never ∙ not_opened_receiving bytes)
  refused_not_open never slot (closes d) h =
      ap (λ (o : Outcome Exchange). (answered s o).refusal) (ap closing never ∙ not_opened_closing)

keeps_world : (store : Store) (calls : List Call) → KeepsWorld store calls
unfolding worlds.refused_in send_reply send_buffer unopened_state held
keeps_world store calls = record {
  states = open_states store calls;
  refusals = λ c h. refused_alike (kept_from store calls (drive_of c)) (world_after calls (drive_of c)) (open_back store calls (drive_of c)) c h;
  sizes = λ d x there room start. ap (λ o. size_reply (size_written o)) (open_sends store calls d x there room start);
  written = λ d x there start old. ap (λ o. buffer_after o start old) (open_sends store calls d x there (length old) start);
  unopened_stays = λ d first none. unopened_states store calls d first ∙ ap (λ (slot : Slot). state_of (held slot)) none;
  not_open = λ c first h.
      let slot = world_after calls (drive_of c) in
      let never = ap exchange_of (unopened_states store calls (drive_of c) first) ∙ (there_and_back (held slot) ∙ not_open_law slot c h) in
      refused_not_open (kept_from store calls (drive_of c)) never slot c h;
}

-- ---- the decisions

reads : (store : Store) (calls : List Call) (d v : ℕ) → decision_of (world_after calls d) ≡ Decided (pattern v) → Reads (kept_from store calls d) v
reads store calls d v e =
    let is = decided_open (world_after calls d) e in
    let state = open_states store calls d is.0 is.1 in
    record {
      decided = ap (λ (s : State). s.decided) state ∙ ap decided_flag is.2;
      decision = ap (λ (s : State). s.decision) state ∙ ap decided_number is.2;
    }

pub controllers_agree : ControllersAgree
unfolding Agreement
controllers_agree = record {
  keeps = keeps_world;
  agree = λ s ok untouched calls run.
      let agreed = agreement s ok untouched calls run in
      record {
        agreed = agreed;
        final = λ store d up. reads store calls d agreed.value (agreed.final d up);
        at_close = λ store d v k h. reads store _ d v h.decided;
      };
}
