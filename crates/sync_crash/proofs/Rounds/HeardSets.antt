-- Heard-of sets and what listeners know: F1, F2 and F3 of docs/AGREEMENT.md. A core drive that closes a round was heard
-- in it by all, and who is heard was heard in the round before. So heard-of sets only shrink, and no message of a run
-- comes from a sender that was missing in an earlier round. Sends go to the core first, so that whatever reached a
-- listener in a round reached every core drive that closed it: a listener knows no more than any of them.
use Rattle.std.specs.Prelude.{◌≡◌, true, false, eqb}
use Rattle.std.proofs.Common.{sym, ap, ◌∙◌, ⊎_elim, eqb-true}
use Prim.Native.Nat.{ℕ, zero, suc}
use Rattle.std.proofs.lemmas.Bool.{eqb-false}
use Rattle.drive_sets.specs.Bools.{◌⊆◌}
use Rattle.drive_sets.specs.Bools.Laws.{clash, by_test, and_left}
use Rattle.sync_crash.specs.Rounds.{Instance, InFrame, Lawful, start, heard, after, knows, before}
use Rattle.sync_crash.proofs.Rounds.Steps.{Active, Sender, Reaches, Closer, Learnt, by_close, before_now, knows_stays, closer_active, active_closed, sender_active, active_sends, heard_self, heard_reaches, heard_cases, learns, learnt}

module _ {S : Instance} (L : Lawful S) where
  open S use {core}
  open L use {full_reach, core_first}

  -- F1. A core drive that closes a round reached everybody else in it.
  pub closer_reaches : {k d e : ℕ} → core d ≡ true → Closer S k d → InFrame S e → (e ≡ d → ⊥) → Reaches S k d e
  closer_reaches i c f ne = record { sender = active_sends L i (closer_active L c); within = full_reach i c.up f ne }

  pub closer_heard : {k d : ℕ} → core d ≡ true → Closer S k d → (e : ℕ) → InFrame S e → heard S (after S k) k e d ≡ true
  closer_heard {k} {d} i c e f =
      by_test (eqb e d)
      (λ t. rw (eqb-true e d t) (heard_self L k d i))
      (λ t. heard_reaches L (closer_reaches i c f (eqb-false e d t)))

  -- F2. Whoever sends in round k + 1 was heard in round k by all that still take part.
  pub sender_was_heard : (k : ℕ) {d e : ℕ} → Sender S k d → Active S k e → before S k e d ≡ true
  unfolding after start
  sender_was_heard zero s a = s.in_core
  sender_was_heard (suc k) {d} {e} s a =
      before_now L (active_closed L a) d ∙ closer_heard s.in_core (active_closed L (sender_active L s)) e a.in_frame

  -- heard-of sets only shrink
  pub heard_was_heard : {k e : ℕ} → Closer S k e → heard S (after S k) k e ⊆ before S k e
  heard_was_heard {k} {e} c d h =
      ⊎_elim
      (λ r. sender_was_heard k r.sender (closer_active L c))
      (λ q. rw q.1 (sender_was_heard k (active_sends L q.0 (closer_active L c)) (closer_active L c)))
      (heard_cases L k e d h)

  -- and lie in the core
  pub heard_core : (k e : ℕ) → heard S (after S k) k e ⊆ core
  heard_core k e d h = ⊎_elim (λ r. r.sender.in_core) (λ q. ap core q.1 ∙ q.0) (heard_cases L k e d h)

  pub before_core : (k e : ℕ) → before S k e ⊆ core
  unfolding after start
  before_core zero e d t = t
  before_core (suc k) e d t =
      by_close L k e
      (λ c. heard_core k e d (sym (before_now L c d) ∙ t))
      (λ q. before_core k e d (sym (ap (λ a. a.before d) q) ∙ t))

  -- ---- listeners

  -- who reaches a listener reaches every other core drive
  pub reaches_core : {k d e c : ℕ} → Reaches S k d e → core e ≡ false → core c ≡ true → (c ≡ d → ⊥) → Reaches S k d c
  reaches_core r l i ne = record { sender = r.sender; within = core_first r.within l i ne }

  module _ {e d : ℕ} (l : core e ≡ false) (i : core d ≡ true) where
    -- one round keeps it
    keeps_less : {k : ℕ} → Closer S k e → Closer S k d → knows S k e ⊆ knows S k d → knows S (suc k) e ⊆ knows S (suc k) d
    keeps_less {k} a c less x t =
        ⊎_elim (λ o. knows_stays L k d x (less x o)) new (learnt L a x t)
      where
        new : Learnt S k e x → knows S (suc k) d x ≡ true
        new w =
            by_test (eqb d w.from)
            (λ q. knows_stays L k d x (rw (eqb-true d w.from q) w.knew))
            (λ q. learns L c (reaches_core w.reached l i (eqb-false d w.from q)) w.undecided x w.knew)

    pub listener_knew_less : (k : ℕ) → Active S k e → Active S k d → knows S k e ⊆ knows S k d
    unfolding after start
    listener_knew_less zero a b = λ x t. absurd (clash (and_left (core e) _ t) l)
    listener_knew_less (suc k) a b =
        let a' = active_closed L a in
        let b' = active_closed L b in
        keeps_less a' b' (listener_knew_less k (closer_active L a') (closer_active L b'))

    -- F3
    pub listener_knows_less : {k : ℕ} → Closer S k e → Closer S k d → knows S (suc k) e ⊆ knows S (suc k) d
    listener_knows_less {k} a b = keeps_less a b (listener_knew_less k (closer_active L a) (closer_active L b))
