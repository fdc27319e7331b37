-- One round, drive by drive: who sends, who closes and who reaches whom, as records of facts; what a close leaves; what
-- only grows.
use Rattle.std.specs.Prelude.{◌≡◌, true, false, ◌⊎◌}
use Rattle.std.proofs.Math.Path.{refl, ap}
use Rattle.std.proofs.Common.{sym, ◌∙◌}
use Rattle.std.proofs.Math.Bool.{not}
use Rattle.std.proofs.Math.Logic.{inl, inr, ⊎_elim}
use Rattle.std.proofs.Math.Option.{none, some, or_else}
use Prim.Native.Nat.{ℕ, zero, suc}
use borrow.Author.Tests.{eqb-true, eq-eqb, not-true}
use Rattle.drive_sets.specs.Bools.Laws.{clash, by_test, false_of, and_intro, and_left, and_right, or_left, or_right, or_cases, cond_true, cond_false}
use Rattle.drive_sets.specs.Options.{is_some}
use Rattle.drive_sets.specs.Options.Laws.{by_option, none_some, is_some_law, is_none, some_of, none_of}
use Rattle.drive_sets.specs.Lists.{range}
use Rattle.drive_sets.specs.Lists.Laws.{any_elem, any_intro}
use Rattle.sync_crash.specs.Rounds.{Instance, InFrame, Lawful, start, sends, reaches, adds, known, heard, decides, halts, closes, closed, step, after, knows, before, decision, halted}

-- e takes part in round k + 1
pub record Active (S : Instance) (k e : ℕ) : Type 0 where
  pub in_frame : InFrame S e
  pub awake : halted S k e ≡ false
  pub up : S.alive k e ≡ true

-- d sends in round k + 1
pub record Sender (S : Instance) (k d : ℕ) : Type 0 where
  pub in_core : S.core d ≡ true
  pub awake : halted S k d ≡ false
  pub up : S.alive k d ≡ true

-- d reaches e in round k + 1
pub record Reaches (S : Instance) (k d e : ℕ) : Type 0 where
  pub sender : Sender S k d
  pub within : S.reach k d e ≡ true

-- e closes round k + 1
pub record Closer (S : Instance) (k e : ℕ) : Type 0 where
  pub in_frame : InFrame S e
  pub awake : halted S k e ≡ false
  pub up : S.alive (suc k) e ≡ true

-- e learns x's number in round k + 1
pub record Learnt (S : Instance) (k e x : ℕ) : Type 0 where
  pub from : ℕ
  pub reached : Reaches S k from e
  pub undecided : decision S k from ≡ none
  pub knew : knows S k from x ≡ true

module _ {S : Instance} (L : Lawful S) where
  open S use {n, core, alive, reach}
  open L use {in_frame, no_return}

  -- ---- the tests and the records

  pub sends_true : (k d : ℕ) → sends S (after S k) k d ≡ true → Sender S k d
  unfolding sends
  sends_true k d h = record { in_core = search and_left; awake = search (and_left, and_right, not-true); up = search (and_left, and_right) }

  pub true_sends : {k d : ℕ} → Sender S k d → sends S (after S k) k d ≡ true
  unfolding sends
  true_sends s = and_intro s.in_core (and_intro (ap not s.awake) s.up)

  pub reaches_true : (k d e : ℕ) → reaches S (after S k) k d e ≡ true → Reaches S k d e
  unfolding reaches
  reaches_true k d e h = record { sender = sends_true k d (search and_left); within = search and_right }

  pub true_reaches : {k d e : ℕ} → Reaches S k d e → reaches S (after S k) k d e ≡ true
  unfolding reaches
  true_reaches r = and_intro (true_sends r.sender) r.within

  pub closes_true : (k e : ℕ) → closes S (after S k) k e ≡ true → Closer S k e
  unfolding closes
  closes_true k e h = record { in_frame = search and_left; awake = search (and_left, and_right, not-true); up = search (and_left, and_right) }

  pub true_closes : {k e : ℕ} → Closer S k e → closes S (after S k) k e ≡ true
  unfolding closes
  true_closes c = and_intro c.in_frame (and_intro (ap not c.awake) c.up)

  -- ---- what a round leaves

  pub closed_view : {k e : ℕ} → Closer S k e → after S (suc k) e ≡ closed S (after S k) k e
  unfolding after step
  closed_view c = cond_true _ _ (true_closes c)

  pub same_view : (k e : ℕ) → closes S (after S k) k e ≡ false → after S (suc k) e ≡ after S k e
  unfolding after step
  same_view k e h = cond_false _ _ h

  -- a drive closes the round, or keeps what it holds
  pub by_close {ℓ} : {C : Type ℓ} (k e : ℕ) → (Closer S k e → C) → (after S (suc k) e ≡ after S k e → C) → C
  by_close k e f g = by_test (closes S (after S k) k e) (λ t. f (closes_true k e t)) (λ t. g (same_view k e t))

  pub halted_view : (k e : ℕ) → halted S k e ≡ true → after S (suc k) e ≡ after S k e
  halted_view k e h = by_close k e (λ c. absurd (clash h c.awake)) (λ q. q)

  module _ {k e : ℕ} (c : Closer S k e) where
    pub knows_now : (x : ℕ) → knows S (suc k) e x ≡ known S (after S k) k e x
    unfolding closed
    knows_now x = ap (λ a. a.knows x) (closed_view c)

    pub before_now : (d : ℕ) → before S (suc k) e d ≡ heard S (after S k) k e d
    unfolding closed
    before_now d = ap (λ a. a.before d) (closed_view c)

    pub decision_now : decision S (suc k) e ≡ decides S (after S k) k e
    unfolding closed
    decision_now = ap (λ a. a.decision) (closed_view c)

    pub halted_now : halted S (suc k) e ≡ halts S (after S k) k e
    unfolding closed
    halted_now = ap (λ a. a.halted) (closed_view c)

    -- a core drive that was undecided goes on
    pub awake_now : core e ≡ true → decision S k e ≡ none → halted S (suc k) e ≡ false
    unfolding halts
    awake_now i o = halted_now ∙ rw (o, i) refl

  -- ---- what only grows

  pub decision_stays : (k e : ℕ) {v : ℕ} → decision S k e ≡ some v → decision S (suc k) e ≡ some v
  unfolding decides or_else
  decision_stays k e h = by_close k e (λ c. decision_now c ∙ rw h refl) (λ q. ap (λ a. a.decision) q ∙ h)

  pub knows_stays : (k e x : ℕ) → knows S k e x ≡ true → knows S (suc k) e x ≡ true
  unfolding known
  knows_stays k e x h = by_close k e (λ c. knows_now c x ∙ or_left _ h) (λ q. ap (λ a. a.knows x) q ∙ h)

  pub halted_stays : (k e : ℕ) → halted S k e ≡ true → halted S (suc k) e ≡ true
  halted_stays k e h = ap (λ a. a.halted) (halted_view k e h) ∙ h

  pub awake_before : (k e : ℕ) → halted S (suc k) e ≡ false → halted S k e ≡ false
  awake_before k e h = false_of (halted S k e) (λ t. clash (halted_stays k e t) h)

  pub undecided_before : (k e : ℕ) → decision S (suc k) e ≡ none → decision S k e ≡ none
  undecided_before k e h = by_option (decision S k e) (λ q. q) (λ v q. absurd (none_some h (decision_stays k e q)))

  -- who has halted has decided
  pub halted_decided : (k e : ℕ) → halted S k e ≡ true → is_some (decision S k e) ≡ true
  unfolding after start halts
  halted_decided zero e h = absurd (clash h refl)
  halted_decided (suc k) e h =
      by_close k e
      (λ c. ⊎_elim (λ t. is_some_law (decision_stays k e (some_of (decision S k e) t).1))
      (λ t. ap is_some (decision_now c) ∙ and_right (not (core e)) _ t)
      (or_cases _ _ (sym (halted_now c) ∙ h)))
      (λ q. ap (λ a. is_some a.decision) q ∙ halted_decided k e (sym (ap (λ a. a.halted) q) ∙ h))

  pub undecided_awake : (k e : ℕ) → decision S k e ≡ none → halted S k e ≡ false
  undecided_awake k e o = false_of (halted S k e) (λ t. clash (halted_decided k e t) (is_none o))

  -- ---- from round to round

  pub closer_active : {k e : ℕ} → Closer S k e → Active S k e
  closer_active c = record { in_frame = c.in_frame; awake = c.awake; up = no_return c.up }

  pub active_closed : {k e : ℕ} → Active S (suc k) e → Closer S k e
  active_closed {k} {e} a = record { in_frame = a.in_frame; awake = awake_before k e a.awake; up = a.up }

  pub sender_active : {k d : ℕ} → Sender S k d → Active S k d
  sender_active s = record { in_frame = in_frame s.in_core; awake = s.awake; up = s.up }

  pub active_sends : {k d : ℕ} → core d ≡ true → Active S k d → Sender S k d
  active_sends i a = record { in_core = i; awake = a.awake; up = a.up }

  -- ---- who is heard

  pub heard_self : (k e : ℕ) → core e ≡ true → heard S (after S k) k e e ≡ true
  unfolding heard
  heard_self k e i = or_right (reaches S (after S k) k e e) (and_intro i (eq-eqb e e refl))

  pub heard_reaches : {k d e : ℕ} → Reaches S k d e → heard S (after S k) k e d ≡ true
  unfolding heard
  heard_reaches r = or_left _ (true_reaches r)

  pub heard_cases : (k e d : ℕ) → heard S (after S k) k e d ≡ true → Reaches S k d e ⊎ ((core e ≡ true) × (d ≡ e))
  unfolding heard
  heard_cases k e d h =
      ⊎_elim (λ t. inl (reaches_true k d e t)) (λ t. inr (and_left (core e) _ t, eqb-true d e (and_right (core e) _ t))) (or_cases _ _ h)

  -- ---- what is learnt

  pub learns : {k e d : ℕ} → Closer S k e → Reaches S k d e → decision S k d ≡ none → (x : ℕ) → knows S k d x ≡ true → knows S (suc k) e x ≡ true
  unfolding known adds
  learns {k} {e} {d} c r o x t =
      knows_now c x
      ∙ or_right (knows S k e x) (any_intro (λ y. adds S (after S k) k y e x) (range 1 n) d (in_frame r.sender.in_core)
      (and_intro (true_reaches r) (and_intro (ap not (is_none o)) t)))

  pub learnt : {k e : ℕ} → Closer S k e → (x : ℕ) → knows S (suc k) e x ≡ true → (knows S k e x ≡ true) ⊎ Learnt S k e x
  unfolding known adds
  learnt {k} {e} c x t =
      ⊎_elim inl
      (λ h. let w = any_elem (λ y. adds S (after S k) k y e x) (range 1 n) h in
      let d = w.0 in
      let both = w.2 in
      inr (record {
        from = d;
        reached = reaches_true k d e (and_left (reaches S (after S k) k d e) _ both);
        undecided = none_of (decision S k d) (search (and_left, and_right, not-true));
        knew = search (and_left, and_right);
      }))
      (or_cases (knows S k e x) _ (sym (knows_now c x) ∙ t))
