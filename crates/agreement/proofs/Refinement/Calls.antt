-- One due call of a round's part: the world goes on following the abstract round. A sender has not closed yet, so its
-- state is that of the round and its send gives its message. The bytes of a due message are just what its sender wrote,
-- so the message is accepted where the drive still takes part, and changes nothing where it has halted. At a due close
-- all that reach the drive have been delivered to it, so that the close leaves what the round leaves.
use mathlib.Core.Path.{◌≡◌, refl, sym, ap, ap₂, ◌∙◌, subst, fun_ext}
use mathlib.Core.Bool.{Bool, true, false, not, ◌&&◌, ◌||◌, and-true, and-false, or_comm}
use mathlib.Core.Logic.{inl, inr, ⊎_elim}
use mathlib.Core.List.{List}
use Prim.Native.Nat.{ℕ, suc, ◌+◌, ◌<◌}
use lib.Dec.{eqb, leb}
use lib.ListN.{length}
use borrow.Author.Tests.{eqb-true, eq-eqb, leb-true, leb-false, not-true}
use Rattle.drive_sets.specs.Bools.Laws.{clash, by_test, false_of, and_intro, and_left, and_right, or_left, or_right, or_second, or_cases, or_false_right, cond_true, cond_false, same_sets}
use Rattle.drive_sets.specs.Lists.{elem}
use Rattle.drive_sets.specs.Lists.Laws.{all_elem}
use Rattle.drive_sets.specs.Masks.{has, size}
use Rattle.drive_sets.specs.Refusals.{yields}
use Rattle.drive_states.specs.declared.Exchange.{Exchange}
use Rattle.agreement.specs.Calls.{receiving, next, closing}
use Rattle.agreement.specs.Sends.{reach}
use Rattle.agreement.proofs.CallLaws.{received}
use Rattle.agreement.proofs.SendLists.{reach_frame, reach_other}
use Rattle.sync_crash.specs.Rounds.{InFrame}
use Rattle.sync_crash.proofs.Rounds.Steps.{Active, Sender, Closer, reaches_true, true_reaches, sender_active, closer_active, active_sends}
use Rattle.sync_crash.proofs.Rounds.HeardSets.{sender_was_heard}
use Rattle.runs.specs.World.{sends, delivers, closes, Slot, opened, World, put, after_call, on_state, active}
use Rattle.runs.specs.World as worlds
use Rattle.runs.specs.World.Laws.{Gives, by_message, put_same, put_other, call_keeps}
use Rattle.runs.specs.Scenario.{Scenario, core_of, frame}
use Rattle.runs.specs.Runs.{wrote, RoundProgress, is_called, wrote_just, settled, sent_by, lacks_room, sender}
use Rattle.runs.specs.Runs as any_runs
use Rattle.runs.specs.Runs.Laws.{same_list_true}
use Rattle.runs.specs.Statement.{Valid}
use Rattle.agreement.specs.Document01.{document01, sending_of, undelivered, arrived, due, noted}
use Rattle.agreement.specs.Instance.{instance_of}
use Rattle.agreement.proofs.Instances.{lawful, bounded, core_round}
use Rattle.agreement.proofs.States.{InRound, state_of, message_of}
use Rattle.agreement.proofs.States.Sending.{sending_state, sending_no_room}
use Rattle.agreement.proofs.States.Receiving.{receiving_state}
use Rattle.agreement.proofs.States.Closing.{closing_state}
use Rattle.agreement.proofs.Refinement.{reaches_in, Begins, HasSent, HasClosed, Follows}
use Rattle.agreement.proofs.Refinement.Participants.{sender_true, true_sender, true_closer}

-- a drive that is not active takes no message in
idle_takes_none : {w : World} {d e : ℕ} {bytes : List ℕ} {y : Exchange} → Gives document01 w d (delivers e bytes) y → active (w d) ≡ false → ⊥
unfolding active
idle_takes_none (by_message {x} {bytes = bytes} there q) h = clash (ap not (received x bytes q).0) (sym (ap active there) ∙ h)

module _ {s : Scenario} (ok : Valid s) {k : ℕ} (round : k < size (core_of s)) {w₀ : World} (begins : Begins s k w₀)
    {b : RoundProgress} {w : World} (g : Follows s k w₀ b w) where
  -- what has been delivered to e comes from core drives
  delivered_round : {e : ℕ} → InFrame (instance_of s) e → InRound (instance_of s) k e (λ d. b.delivered d e)
  delivered_round {e} f = record {
    in_frame = f;
    round = core_round ok round;
    from_core = λ d h. (reaches_true (lawful ok) k d e (g.delivered d e h)).sender.in_core;
  }

  -- ---- a send

  module _ (d room start : ℕ) (t : due s (suc k) w₀ b w (sends d room start) ≡ true) where
    by_sender : Sender (instance_of s) k d
    unfolding any_runs.due
    by_sender = true_sender ok round begins d (search (and_left, and_right))

    not_closed_yet : b.closed d ≡ false
    unfolding any_runs.due
    not_closed_yet =
        false_of (b.closed d) (λ h. clash ((g.closed d h).own_sent by_sender.in_core) (search (and_left, and_right, not-true)))

    gave : sending_of (w d) room start ≡ yields (message_of (instance_of s) k d)
    unfolding any_runs.due any_runs.sending_of lacks_room
    gave =
        let message = message_of (instance_of s) k d in
        let i = delivered_round ((lawful ok).in_frame by_sender.in_core) in
        let state = ap (λ slot. sending_of slot room start) (g.going d (sender_active (lawful ok) by_sender) not_closed_yet) in
        by_test (leb (start + length message) room)
        (λ h. state ∙ sending_state (lawful ok) (bounded ok) i by_sender.in_core room start (leb-true (start + length message) room h))
        (λ h. absurd (clash
        (ap lacks_room (state ∙ sending_no_room (lawful ok) (bounded ok) i by_sender.in_core room start (leb-false (start + length message) room h)))
        (search (and_right, not-true))))

    abbrev sent_then : RoundProgress
    sent_then = noted s (suc k) w₀ b w (sends d room start)

    sent_here : sent_then.sent d ≡ wrote (message_of (instance_of s) k d)
    unfolding any_runs.noted sent_by
    sent_here = cond_true _ _ (eq-eqb d d refl) ∙ ap sent_by gave

    sent_elsewhere : (y : ℕ) → eqb y d ≡ false → sent_then.sent y ≡ b.sent y
    unfolding any_runs.noted
    sent_elsewhere y h = cond_false _ _ h

    called_then : (y : ℕ) → is_called (b.sent y) ≡ true → is_called (sent_then.sent y) ≡ true
    unfolding is_called
    called_then y h = by_test (eqb y d) (λ e. rw (eqb-true y d e) (ap is_called sent_here)) (λ e. ap is_called (sent_elsewhere y e) ∙ h)

    pub follows_sends : Follows s k w₀ sent_then w
    unfolding any_runs.noted
    follows_sends = record {
      sent = λ y. by_test (eqb y d)
          (λ e. inr (subst (HasSent s k sent_then.sent) (sym (eqb-true y d e)) (record { sender = by_sender; written = sent_here })))
          (λ e. ⊎_elim (λ h. inl (sent_elsewhere y e ∙ h)) (λ h. inr (record { sender = h.sender; written = sent_elsewhere y e ∙ h.written })) (g.sent y));
      delivered = g.delivered;
      closed = λ e h. let c = g.closed e h in record { all_came = c.all_came; own_sent = λ i. called_then e (c.own_sent i) };
      going = g.going;
      ended = g.ended;
      idle = g.idle;
    }

  -- ---- a message of d that is undelivered to e

  module _ (e : ℕ) (bytes : List ℕ) (d : ℕ) (t : undelivered s (suc k) w₀ b e bytes d ≡ true) where
    -- who wrote just these bytes has sent, and they are its message
    message_sent : HasSent s k b.sent d × (message_of (instance_of s) k d ≡ bytes)
    unfolding any_runs.undelivered wrote_just
    message_sent =
        let wrote_it : wrote_just (b.sent d) bytes ≡ true = search (and_left, and_right) in
        ⊎_elim
        (λ h. absurd (clash (sym (ap (λ z. wrote_just z bytes) h) ∙ wrote_it) refl))
        (λ h. (h, same_list_true (message_of (instance_of s) k d) bytes (sym (ap (λ z. wrote_just z bytes) h.written) ∙ wrote_it)))
        (g.sent d)

    on_list : elem e (reach s (suc k) d) ≡ true
    unfolding any_runs.undelivered
    on_list = search (and_left, and_right)

    not_delivered : b.delivered d e ≡ false
    unfolding any_runs.undelivered
    not_delivered = search (and_right, not-true)

    d_reaches : reaches_in s k d e ≡ true
    d_reaches = true_reaches (lawful ok) (record { sender = message_sent.0.sender; within = on_list })

    other : d ≡ e → ⊥
    other h = clash (rw (← h) at on_list) (reach_other s d (suc k) message_sent.0.sender.in_core)

    abbrev told_then : RoundProgress
    told_then = record { sent = b.sent; delivered = λ x y. (eqb x d && eqb y e) || b.delivered x y; closed = b.closed }

    abbrev told : Slot
    told = on_state (λ x. receiving x bytes) (w e)

    accepted : Active (instance_of s) k e → b.closed e ≡ false → told ≡ opened (state_of (instance_of s) k e (λ y. told_then.delivered y e))
    unfolding on_state after_call frame
    accepted a o =
        ap₂ (λ x l. on_state (λ y. receiving y l) x) (g.going e a o) (sym message_sent.1)
        ∙ (ap (after_call (opened (state_of (instance_of s) k e (λ y. b.delivered y e))))
        (receiving_state (lawful ok) (bounded ok) (delivered_round (reach_frame s d (suc k) e on_list)) (record {
          in_core = message_sent.0.sender.in_core;
          other = other;
          was_heard = sender_was_heard (lawful ok) k message_sent.0.sender a;
          new = not_delivered;
        }))
        ∙ ap (λ from. opened (state_of (instance_of s) k e from)) with_d)
      where
        with_d : ◌≡◌ {A = ℕ → Bool} (λ y. b.delivered y e || eqb y d) (λ y. told_then.delivered y e)
        with_d = fun_ext (λ y. or_comm (b.delivered y e) (eqb y d) ∙ rw (eq-eqb e e refl, and-true) refl)

    others : (y : ℕ) → eqb y e ≡ false → ◌≡◌ {A = ℕ → Bool} (λ x. b.delivered x y) (λ x. told_then.delivered x y)
    others y h = fun_ext (λ x. rw (h, and-false) refl)

    pub follows_delivers : Follows s k w₀ told_then (put w e told)
    unfolding worlds.apply
    follows_delivers = record {
      sent = g.sent;
      delivered = λ x y h. ⊎_elim
          (λ p. ap₂ (reaches_in s k) (eqb-true x d (and_left (eqb x d) (eqb y e) p)) (eqb-true y e (and_right (eqb x d) (eqb y e) p)) ∙ d_reaches)
          (g.delivered x y) (or_cases (eqb x d && eqb y e) (b.delivered x y) h);
      closed = λ y h. let c = g.closed y h in
          record { all_came = λ x r. or_right (eqb x d && eqb y e) (c.all_came x r); own_sent = c.own_sent };
      going = λ y a o. by_test (eqb y e)
          (λ h. let is = eqb-true y e h in rw is (put_same w e told ∙ accepted (rw is at a) (rw is at o)))
          (λ h. put_other w e told y h ∙ (g.going y a o ∙ ap (λ from. opened (state_of (instance_of s) k y from)) (others y h)));
      ended = λ y o. by_test (eqb y e)
          (λ h. absurd (clash ((g.closed e (rw (eqb-true y e h) at o)).all_came d d_reaches) not_delivered))
          (λ h. put_other w e told y h ∙ g.ended y o);
      idle = λ y f u h. call_keeps document01 (λ z. z ≡ w₀ y) w (delivers e bytes) y (g.idle y f u h)
          (λ z a. absurd (idle_takes_none a (ap active (g.idle y f u h) ∙ begins.idle y f u h)));
    }

  -- ---- a close

  module _ (e : ℕ) (t : due s (suc k) w₀ b w (closes e) ≡ true) where
    pub close_closer : Closer (instance_of s) k e
    unfolding any_runs.due
    close_closer = true_closer ok round begins e (search (and_left, and_right))

    pub not_closed : b.closed e ≡ false
    unfolding any_runs.due
    not_closed = search (and_left, and_right, not-true)

    own_sent : has e (core_of s) ≡ true → is_called (b.sent e) ≡ true
    unfolding any_runs.due
    own_sent i =
        ⊎_elim
        (λ h. absurd (clash (sender_true ok round begins (active_sends (lawful ok) i (closer_active (lawful ok) close_closer))) (not-true _ h)))
        (λ h. h)
        (or_cases (not (sender s (suc k) w₀ e)) (is_called (b.sent e)) (search (and_left, and_right)))

    -- a sender that reaches e has sent, and its message has been delivered
    settled_came : (d : ℕ) → settled (b.sent d) (b.delivered d e) ≡ true → b.delivered d e ≡ true
    unfolding settled
    settled_came d h =
        ⊎_elim
        (λ p. absurd (clash (sym (ap (λ z. settled z (b.delivered d e)) p) ∙ h) refl))
        (λ p. sym (ap (λ z. settled z (b.delivered d e)) p.written) ∙ h)
        (g.sent d)

    all_came : (d : ℕ) → reaches_in s k d e ≡ true → b.delivered d e ≡ true
    unfolding any_runs.due any_runs.arrived frame
    all_came d h =
        let r = reaches_true (lawful ok) k d e h in
        ⊎_elim
        (λ p. absurd (clash (and_intro (sender_true ok round begins r.sender) r.within) (not-true _ p)))
        (settled_came d)
        (or_cases (not (sender s (suc k) w₀ d && elem e (reach s (suc k) d))) _
        (all_elem (arrived s (suc k) w₀ b e) (frame s) d (search and_right) ((lawful ok).in_frame r.sender.in_core)))

    pub closed_state : on_state closing (w e) ≡ opened (next (state_of (instance_of s) k e (λ d. reaches_in s k d e)))
    unfolding on_state after_call
    closed_state =
        ap (on_state closing)
        (g.going e (closer_active (lawful ok) close_closer) not_closed
        ∙ ap (λ from. opened (state_of (instance_of s) k e from)) (same_sets (λ d. g.delivered d e) all_came))
        ∙ ap (after_call (opened (state_of (instance_of s) k e (λ d. reaches_in s k d e)))) (closing_state (lawful ok) (bounded ok) (core_round ok round) close_closer)

    abbrev closed_then : RoundProgress
    closed_then = record { sent = b.sent; delivered = b.delivered; closed = λ y. eqb y e || b.closed y }

    pub follows_closes : Follows s k w₀ closed_then (put w e (on_state closing (w e)))
    follows_closes = record {
      sent = g.sent;
      delivered = g.delivered;
      closed = λ y h. by_test (eqb y e)
          (λ p. subst (HasClosed s k closed_then) (sym (eqb-true y e p)) (record { all_came = all_came; own_sent = own_sent }))
          (λ p. let c = g.closed y (or_second (eqb y e) (b.closed y) p ∙ h) in record { all_came = c.all_came; own_sent = c.own_sent });
      going = λ y a o. by_test (eqb y e)
          (λ p. absurd (clash (or_left (b.closed y) p) o))
          (λ p. put_other w e _ y p ∙ g.going y a (or_false_right (eqb y e) (b.closed y) o));
      ended = λ y o. by_test (eqb y e)
          (λ p. rw (eqb-true y e p) (put_same w e _ ∙ closed_state))
          (λ p. put_other w e _ y p ∙ g.ended y (or_second (eqb y e) (b.closed y) p ∙ o));
      idle = λ y f u h. by_test (eqb y e)
          (λ p. absurd (clash (rw (eqb-true y e p) at h) close_closer.awake))
          (λ p. put_other w e _ y p ∙ g.idle y f u h);
    }
