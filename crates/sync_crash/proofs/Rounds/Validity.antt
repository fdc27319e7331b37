-- Validity: a drive knows the numbers of core drives only, a core drive always its own, and every number decided on is
-- one of them.
use Rattle.std.specs.Prelude.{◌≡◌, Bool, true}
use Rattle.std.proofs.Math.Path.{refl, ap}
use Rattle.std.proofs.Common.{sym, ◌∙◌, eqb-true, eq-eqb}
use Rattle.std.proofs.Math.Logic.{⊎_elim}
use Rattle.std.proofs.Math.Option.{some}
use Prim.Native.Nat.{ℕ, zero, suc}
use Rattle.drive_sets.specs.Bools.{◌⊆◌}
use Rattle.drive_sets.specs.Bools.Laws.{and_intro, and_left, and_right}
use Rattle.drive_sets.specs.Options.Laws.{by_option, none_some, same_some}
use Rattle.drive_sets.specs.Lists.{range, filter, elem}
use Rattle.drive_sets.specs.Lists.Laws.{elem_filter}
use Rattle.drive_sets.specs.Lists.Smallest.{smallest_some, smallest_elem}
use Rattle.sync_crash.specs.Rounds.{Instance, InFrame, Lawful, start, smallest_of, after, knows, decision}
use Rattle.sync_crash.proofs.Rounds.Steps.{by_close, decision_stays, knows_stays, learnt}
use Rattle.sync_crash.proofs.Rounds.Decisions.{how_decided}

-- v is the proposal of a core drive
pub record Proposed (S : Instance) (v : ℕ) : Type 0 where
  pub by : ℕ
  pub in_core : S.core by ≡ true
  pub is : v ≡ S.proposal by

module _ {S : Instance} (L : Lawful S) where
  open S use {n, core, proposal}

  -- ---- the smallest number of a set

  pub smallest_of_some : (p : ℕ → Bool) (x : ℕ) → InFrame S x → p x ≡ true → (v : ℕ) × (smallest_of S p ≡ some v)
  unfolding smallest_of
  smallest_of_some p x f t = smallest_some proposal (filter p (range 1 n)) x (elem_filter p x (range 1 n) ∙ and_intro f t)

  pub smallest_of_member : (p : ℕ → Bool) {v : ℕ} → smallest_of S p ≡ some v → (x : ℕ) × (p x ≡ true) × (v ≡ proposal x)
  unfolding smallest_of
  smallest_of_member p h =
      let w = smallest_elem proposal (filter p (range 1 n)) h in
      (w.0, and_right (elem w.0 (range 1 n)) _ (sym (elem_filter p w.0 (range 1 n)) ∙ w.1), w.2)

  -- ---- what is known

  pub knows_own : (k : ℕ) {d : ℕ} → core d ≡ true → knows S k d d ≡ true
  unfolding after start
  knows_own zero {d} i = and_intro i (eq-eqb d d refl)
  knows_own (suc k) {d} i = knows_stays L k d d (knows_own k i)

  pub knows_core : (k e : ℕ) → knows S k e ⊆ core
  unfolding after start
  knows_core zero e x t = ap core (eqb-true x e (and_right (core e) _ t)) ∙ and_left (core e) _ t
  knows_core (suc k) e x t =
      by_close L k e
      (λ c. ⊎_elim (λ o. knows_core k e x o) (λ w. knows_core k w.from x w.knew) (learnt L c x t))
      (λ q. knows_core k e x (sym (ap (λ a. a.knows x) q) ∙ t))

  -- ---- what is decided

  pub decision_proposed : (k e : ℕ) {v : ℕ} → decision S k e ≡ some v → Proposed S v
  unfolding after start
  decision_proposed zero e m = absurd (none_some refl m)
  decision_proposed (suc k) e {v} m =
      by_option (decision S k e)
      (λ o. ⊎_elim
      (λ t. decision_proposed k t.from t.made)
      (λ t. let w = smallest_of_member (knows S (suc k) e) t.1 in record { by = w.0; in_core = knows_core (suc k) e w.0 w.1; is = w.2 })
      (how_decided L k e o m))
      (λ u q. decision_proposed k e (q ∙ ap some (same_some (decision_stays L k e q) m)))
