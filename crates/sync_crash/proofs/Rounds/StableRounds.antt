-- Stable rounds: Q of docs/AGREEMENT.md. Where e decides by a stable round, everybody else who sends was heard by e and
-- is undecided (Q1), no core drive that closes the round knows more than e (Q2), and a listener e knows just what each
-- of them knows (Q3).
use Rattle.std.specs.Prelude.{◌≡◌, true, false, ℕ, suc}
use Rattle.std.proofs.Common.{◌∙◌}
use Rattle.std.proofs.Math.Logic.{⊎_elim}
use Rattle.std.proofs.Math.Option.{none, some}
use Rattle.drive_sets.specs.Bools.{◌⊆◌}
use Rattle.drive_sets.specs.Bools.Laws.{by_test, and_left, and_right, beq_eq, same_sets}
use Rattle.drive_sets.specs.Lists.{range, any}
use Rattle.drive_sets.specs.Lists.Laws.{all_elem, any_elem}
use Rattle.sync_crash.specs.Rounds.{Instance, InFrame, Lawful, heard, unchanged, stable, after, knows, before, decision}
use Rattle.sync_crash.proofs.Rounds.Steps.{Sender, Closer, knows_stays, closer_active, active_sends, heard_cases, learns, learnt}
use Rattle.sync_crash.proofs.Rounds.Decisions.{StableClose, announced_none, decides_stable}
use Rattle.sync_crash.proofs.Rounds.Validity.{smallest_of_some, knows_own, knows_core}
use Rattle.sync_crash.proofs.Rounds.HeardSets.{sender_was_heard, listener_knows_less}

module _ {S : Instance} (L : Lawful S) where
  open S use {n, core}
  open L use {in_frame}

  -- a drive that finds the round stable heard somebody, so that it knows a number
  stable_knows : {k e : ℕ} → StableClose S k e → (x : ℕ) × (knows S (suc k) e x ≡ true)
  unfolding stable
  stable_knows {k} {e} q =
      let w = any_elem (heard S (after S k) k e) (range 1 n) (and_left (any (heard S (after S k) k e) (range 1 n)) _ q.same) in
      let d = w.0 in
      ⊎_elim
      (λ r. (d, learns L q.closer r (announced_none L q.unannounced r) d (knows_own L k r.sender.in_core)))
      (λ p. (e, knows_own L (suc k) p.0))
      (heard_cases L k e d w.2)

  pub stable_unchanged : (k e d : ℕ) → stable S (after S k) k e ≡ true → InFrame S d → heard S (after S k) k e d ≡ before S k e d
  unfolding stable unchanged
  stable_unchanged k e d q f =
      beq_eq (heard S (after S k) k e d) (before S k e d)
      (all_elem (unchanged S (after S k) k e) (range 1 n) d (and_right (any (heard S (after S k) k e) (range 1 n)) _ q) f)

  -- every sender is heard
  pub stable_hears : {k e d : ℕ} → stable S (after S k) k e ≡ true → Closer S k e → Sender S k d → heard S (after S k) k e d ≡ true
  stable_hears {k} {e} {d} q c s = stable_unchanged k e d q (in_frame s.in_core) ∙ sender_was_heard L k s (closer_active L c)

  module _ {k e : ℕ} (q : StableClose S k e) where
    -- so it decides
    pub stable_decides : (v : ℕ) × (decision S (suc k) e ≡ some v)
    stable_decides =
        let w = stable_knows q in
        let v = smallest_of_some L (knows S (suc k) e) w.0 (in_frame (knows_core L (suc k) e w.0 w.1)) w.1 in
        (v.0, decides_stable L q ∙ v.1)

    -- Q1. Nobody who sends has decided.
    pub stable_undecided : {d : ℕ} → Sender S k d → decision S k d ≡ none
    stable_undecided {d} s =
        ⊎_elim (λ r. announced_none L q.unannounced r) (λ p. rw p.1 q.undecided) (heard_cases L k e d (stable_hears q.same q.closer s))

    -- what a sender knew when the round began, e knows at its close
    pub stable_learns : {d : ℕ} → Sender S k d → knows S k d ⊆ knows S (suc k) e
    stable_learns {d} s x t =
        ⊎_elim
        (λ r. learns L q.closer r (stable_undecided s) x t)
        (λ p. knows_stays L k e x (rw p.1 at t))
        (heard_cases L k e d (stable_hears q.same q.closer s))

    module _ {d : ℕ} (i : core d ≡ true) (c : Closer S k d) where
      -- Q2
      pub stable_knows_most : knows S (suc k) d ⊆ knows S (suc k) e
      stable_knows_most x t =
          ⊎_elim (stable_learns (active_sends L i (closer_active L c)) x) (λ w. stable_learns w.reached.sender x w.knew) (learnt L c x t)

      -- Q3
      pub listener_knows_same : core e ≡ false → knows S (suc k) e ≡ knows S (suc k) d
      listener_knows_same l = same_sets (listener_knows_less L l i q.closer c) stable_knows_most

  -- All who decide by a stable round know the same, some core drive p closing the round: two core drives by Q2 both
  -- ways, a listener by F3.
  module _ {k p : ℕ} (i : core p ≡ true) (c : Closer S k p) where
    stable_knows_less : {d e : ℕ} → StableClose S k d → StableClose S k e → knows S (suc k) d ⊆ knows S (suc k) e
    stable_knows_less {d} a b =
        by_test (core d)
        (λ t. stable_knows_most b t a.closer)
        (λ t x h. stable_knows_most b i c x (listener_knows_less L t i a.closer c x h))

    pub stable_knows_same : {d e : ℕ} → StableClose S k d → StableClose S k e → knows S (suc k) d ≡ knows S (suc k) e
    stable_knows_same a b = same_sets (stable_knows_less a b) (stable_knows_less b a)
