-- Sending in a state of a run: a core drive's send is accepted where there is room, and gives the message that the
-- abstract round says; 28, 23 and 27 are ruled out, and 14 is left to the room.
use mathlib.Core.Path.{◌≡◌, refl, sym, ap, ◌∙◌}
use mathlib.Core.Bool.{Bool, true}
use mathlib.Core.Option.{Option, none, some}
use Prim.Native.Nat.{ℕ, suc, ◌+◌, ◌≤◌, ◌<◌}
use native.Mathlib.Omega.{arith}
use lib.ListN.{length}
use Rattle.drive_sets.specs.declared.Refusal.TheVariants.{NoRoom}
use Rattle.drive_sets.specs.Masks.Tests.{set_of, set_of_lt}
use Rattle.drive_sets.specs.Refusals.{refused, yields, number}
use Rattle.drive_states.specs.State.{number_of}
use Rattle.records.specs.Marks.{wide}
use Rattle.drive_states.specs.Messages.{Content, decided, Message, known_of, message_bytes, longest_message}
use Rattle.drive_states.specs.Messages.Laws.{length_known, known_same, length_decided, length_longest}
use Rattle.agreement.specs.Calls.{content_by, decision_on, outgoing, sending}
use Rattle.agreement.proofs.CallLaws.{sending_accepted, sending_crowded}
use Rattle.sync_crash.specs.Rounds.{Instance, Lawful, knows, decision}
use Rattle.sync_crash.proofs.Rounds.Validity.{knows_core}
use Rattle.agreement.proofs.States.{Bounded, InRound, state_of, content_in, value_of, message_of}
use Rattle.agreement.proofs.States.KnownSets.{knows_known}
use Rattle.agreement.proofs.States.Rules.{has_core_set, state_in_core, state_number, state_unbroken, state_running}

module _ (S : Instance) (k d : ℕ) where
  length_by : (o : Option ℕ) → length (message_bytes (record { sender = d; round = suc k; content = content_in S k d o })) ≤ longest_message
  unfolding content_in
  length_by none = omega (arith, length_known wide d (suc k) (set_of (knows S k d)) S.proposal, length_longest (known_of (set_of (knows S k d)) S.proposal))
  length_by (some v) = omega (arith, length_decided wide d (suc k) v, length_longest (decided v))

  pub length_message : length (message_of S k d) ≤ longest_message
  unfolding value_of
  length_message = length_by (decision S k d)

module _ {S : Instance} (L : Lawful S) (B : Bounded S) {k e : ℕ} {from : ℕ → Bool} (i : InRound S k e from) where
  open S use {core, proposal}

  -- what is sent is what was known when the round began
  outgoing_by : (o : Option ℕ) → content_by (state_of S k e from) (decision_on o) ≡ content_in S k e o
  unfolding content_by state_of content_in decision_on
  outgoing_by none =
      known_same (set_of (knows S k e)) (number_of (state_of S k e from)) proposal (set_of_lt (knows S k e))
      (λ d h. state_number L B i d (knows_known L k e from d (sym (has_core_set L B (knows S k e) (knows_core L k e) d) ∙ h)))
  outgoing_by (some v) = refl

  outgoing_is : outgoing (state_of S k e from) ≡ value_of S k e
  unfolding outgoing state_of value_of
  outgoing_is = ap (λ (c : Content). record { sender = e; round = suc k; content = c }) (outgoing_by (decision S k e))

  module _ (in_core : core e ≡ true) (room start : ℕ) where
    pub sending_state : start + length (message_of S k e) ≤ room → sending (state_of S k e from) room start ≡ yields (message_of S k e)
    sending_state fits =
        sending_accepted (state_of S k e from) (state_unbroken L B i) (state_running L B i) room start (state_in_core L B i ∙ in_core)
        (rw outgoing_is fits)
        ∙ ap (λ (m : Message). yields (message_bytes m)) outgoing_is

    pub sending_no_room : room < start + length (message_of S k e) → sending (state_of S k e from) room start ≡ refused (number NoRoom)
    sending_no_room crowded =
        sending_crowded (state_of S k e from) (state_unbroken L B i) (state_running L B i) room start (state_in_core L B i ∙ in_core)
        (rw outgoing_is crowded)
