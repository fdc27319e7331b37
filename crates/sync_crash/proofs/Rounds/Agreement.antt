-- Agreement on the rounds (sections 5 and 6 of docs/AGREEMENT.md): where some core drive has no CR there is one number,
-- proposed by a core drive, on which every drive with no CR decides by round f + 1, and none of them decides anything
-- else. Round f + 1 comes, since f is below the core's size.
use Rattle.std.specs.Prelude.{◌≡◌, refl, Bool, true, not, ◌&&◌, ℕ, suc, ◌≤◌, ◌<◌, length}
use Rattle.std.proofs.Common.{ap, ◌∙◌, le_of_suc-le-suc, arith}
use Rattle.std.proofs.Math.Option.{some}
use Rattle.drive_sets.specs.Bools.Laws.{and_left}
use Rattle.drive_sets.specs.Options.Laws.{by_option}
use Rattle.drive_sets.specs.Lists.{range, filter}
use Rattle.drive_sets.specs.Lists.Counts.{length_filter_lt}
use Rattle.sync_crash.specs.Rounds.{Instance, InFrame, Lawful, decision, StaysUp, failures, DecidesIn}
use Rattle.sync_crash.proofs.Rounds.Decisions.{decision_later, decides_once, decision_round}
use Rattle.sync_crash.proofs.Rounds.Validity.{Proposed, decision_proposed}
use Rattle.sync_crash.proofs.Rounds.InvariantSteps.{invariant}
use Rattle.sync_crash.proofs.Rounds.Bound.{undecided_failures}

-- `correct` is the set of the drives with no CR
pub record Agreement (S : Instance) (correct : ℕ → Bool) : Type 0 where
  pub value : ℕ
  pub proposed : Proposed S value
  pub all : (e : ℕ) → InFrame S e → correct e ≡ true → (k : ℕ) × (k ≤ failures S correct) × DecidesIn S e value k
  pub only : (e k : ℕ) {w : ℕ} → InFrame S e → correct e ≡ true → DecidesIn S e w k → w ≡ value
  pub stands : (e k : ℕ) → InFrame S e → correct e ≡ true → failures S correct < k → decision S k e ≡ some value

module _ {S : Instance} (L : Lawful S) (correct : ℕ → Bool) (stays : (d : ℕ) → correct d ≡ true → StaysUp S d) where
  pub agreement : (p : ℕ) → S.core p ≡ true → correct p ≡ true → Agreement S correct
  agreement p pc pu = record {
    value = value;
    proposed = decision_proposed L (suc f) p (decided p (L.in_frame pc) pu);
    all = λ e g u. let r = decision_round L (suc f) e (decided e g u) in (r.0, le_of_suc-le-suc r.1, r.2);
    only = λ e k g u d. decides_once L (suc f) d (decided e g u);
    stands = λ e k g u h. decision_later L e h (decided e g u);
  }
    where
      f : ℕ
      f = failures S correct

      value : ℕ
      value = (invariant L pc (stays p pu) (suc f)).0

      decided : (e : ℕ) → InFrame S e → correct e ≡ true → decision S (suc f) e ≡ some value
      decided e g u =
          by_option (decision S (suc f) e)
          (λ o. absurd (omega (arith, undecided_failures L e g (stays e u) pc (stays p pu) correct stays (suc f) o)))
          (λ w m. m ∙ ap some ((invariant L pc (stays p pu) (suc f)).1.agree e g (stays e u (suc f)) m))

  pub failures_below_core : (p : ℕ) → S.core p ≡ true → correct p ≡ true → failures S correct < length (filter S.core (range 1 S.n))
  failures_below_core p pc pu =
      length_filter_lt (λ d. S.core d && not (correct d)) S.core (range 1 S.n) (λ d g t. and_left (S.core d) _ t)
      p (L.in_frame pc) (rw (pc, pu) refl) pc
