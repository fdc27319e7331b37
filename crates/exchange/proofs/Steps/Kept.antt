-- A controller that hands each call the state that the last one for its drive left: after any list of calls it has the
-- state of every drive that the world has open, whatever it kept before them, since an accepted opening gives a state
-- that does not depend on the one handed in. So demand 3 speaks of it.
use Rattle.std.specs.Prelude.{◌≡◌, ℕ, eqb}
use Rattle.std.proofs.Math.Path.{refl, ap, subst}
use Rattle.std.proofs.Common.{sym, ◌∙◌, eqb-true}
use mathlib.Core.List.{List, [], ◌∷◌}
use Rattle.drive_sets.specs.Bools.Laws.{clash, by_test, cond_true, cond_false}
use Rattle.drive_sets.specs.Refusals.{yields}
use Rattle.drive_sets.specs.declared.Pattern.{Pattern}
use Rattle.drive_states.specs.declared.Exchange.{Exchange}
use Rattle.drive_states.specs.declared.Decision.TheVariants.{Decided}
use Rattle.drive_states.specs.State.{is_decided}
use Rattle.runs.specs.World as worlds
use Rattle.runs.specs.World.{Call, opens, closes, drive_of, Slot, unopened, opened, World, nothing_open, decision_of}
use Rattle.runs.specs.World.Laws.{apply_other, Gives, by_opening, by_message, by_close, call_keeps}
use Rattle.runs.specs.Scenario.{Scenario}
use Rattle.runs.specs.Statement.{Valid, Untouched, Up, Proposed, Agreement}
use Rattle.agreement.specs.Calls.{opening}
use Rattle.agreement.specs.Document01.{document01, apply, apply_all, Run}
use Rattle.agreement.proofs.Theorems.{agreement}
use Rattle.exchange.specs.Replies.{state_after, not_opened}
use Rattle.exchange.specs.Steps.{held, may_name, leaves, keep, keep_all}
use Rattle.exchange.proofs.Steps.Laws.{leaves_held}

-- ---- one call

leaves_at : (w : World) (c : Call) (d : ℕ) → d ≡ drive_of c → leaves (held (w d)) c ≡ held (apply w c d)
leaves_at w c d is = subst (λ (e : ℕ). leaves (held (w e)) c ≡ held (apply w c e)) (sym is) (leaves_held w c)

-- an accepted opening leaves its result, whatever it is handed
opening_leaves : (x : Exchange) (d n : ℕ) (sets : List ℕ) (own number : ℕ) (y : Exchange) → opening n sets own number ≡ yields y
    → leaves x (opens d n sets own number) ≡ y
unfolding leaves
opening_leaves x d n sets own number y e = ap (state_after x) e

unopened_opened : {x : Exchange} → unopened ≡ opened x → ⊥
unfolding may_name
unopened_opened e = clash (ap (λ slot. may_name slot (closes 0)) e) refl

-- ---- a list of calls

module _ {S : Type 0} (left : S → Call → S) where
  -- a relation between the world's slot of d and the state kept for d: what each call that names d keeps, every list of
  -- calls keeps
  module _ (R : Slot → S → Type 0) (d : ℕ) (step : (w : World) (c : Call) (s : S) → d ≡ drive_of c → R (w d) s → R (apply w c d) (left s c)) where
    keep_related : (w : World) (store : ℕ → S) (c : Call) → R (w d) (store d) → R (apply w c d) (keep left store c d)
    unfolding keep
    keep_related w store c r =
        by_test (eqb d (drive_of c))
        (λ h. subst (R (apply w c d)) (sym (cond_true _ _ h)) (step w c (store d) (eqb-true d (drive_of c) h) r))
        (λ h. subst (λ (slot : Slot). R slot (keep left store c d)) (sym (apply_other document01 w c d h)) (subst (R (w d)) (sym (cond_false (left (store d) c) _ h)) r))

    kept_related : (w : World) (store : ℕ → S) (calls : List Call) → R (w d) (store d) → R (apply_all w calls d) (keep_all left store calls d)
    unfolding keep_all worlds.apply_all
    kept_related w store [] r = r
    kept_related w store (c ∷ calls) r = kept_related (apply w c) (keep left store c) calls (keep_related w store c r)

  -- the states may be kept in another form, in which a call does the same
  module _ (form : Exchange → S) (same : (x : Exchange) (c : Call) → left (form x) c ≡ form (leaves x c)) where
    -- a drive that was never opened when the calls began: after any list of calls what the world has is kept
    pub kept_held : (store : ℕ → S) (calls : List Call) (d : ℕ) → store d ≡ form not_opened → keep_all left store calls d ≡ form (held (apply_all nothing_open calls d))
    unfolding nothing_open held
    kept_held store calls d first =
        kept_related (λ slot s. s ≡ form (held slot)) d
        (λ w c s is r. ap (λ t. left t c) r ∙ (same (held (w d)) c ∙ ap form (leaves_at w c d is)))
        nothing_open store calls first

    -- an accepted opening gives a state that does not depend on the one handed in
    module _ (fresh : (s : S) (d n : ℕ) (sets : List ℕ) (own number : ℕ) (y : Exchange) → opening n sets own number ≡ yields y → left s (opens d n sets own number) ≡ form y) where
      abbrev Follows : Slot → S → Type 0
      Follows slot s = (x : Exchange) → slot ≡ opened x → s ≡ form x

      given_first : {w : World} {c : Call} {d : ℕ} {y : Exchange} (s : S) → w d ≡ unopened → Gives document01 w d c y → left s c ≡ form y
      given_first s none (by_opening e) = fresh s _ _ _ _ _ _ e
      given_first s none (by_message there e) = absurd (unopened_opened (sym none ∙ there))
      given_first s none (by_close there e) = absurd (unopened_opened (sym none ∙ there))

      first_opened : (w : World) (c : Call) (d : ℕ) (s : S) → w d ≡ unopened → Follows (apply w c d) (left s c)
      unfolding held
      first_opened w c d s none =
          call_keeps document01 (λ slot. Follows slot (left s c)) w c d
          (λ x h. absurd (unopened_opened (sym none ∙ h)))
          (λ y g x h. given_first s none g ∙ ap form (ap held h))

      follows : (d : ℕ) (w : World) (c : Call) (s : S) → d ≡ drive_of c → (slot : Slot) → w d ≡ slot → Follows (w d) s → Follows (apply w c d) (left s c)
      unfolding held
      follows d w c s is unopened there r x h = first_opened w c d s there x h
      follows d w c s is (opened y) there r x h =
          ap (λ t. left t c) (r y there)
          ∙ (same y c ∙ ap form (ap (λ slot. leaves (held slot) c) (sym there) ∙ (leaves_at w c d is ∙ ap held h)))

      -- whatever was kept when the calls began: after any list of calls the state of every open drive is kept
      pub kept_open : (store : ℕ → S) (calls : List Call) (d : ℕ) (x : Exchange) → apply_all nothing_open calls d ≡ opened x → keep_all left store calls d ≡ form x
      unfolding nothing_open
      kept_open store calls d =
          kept_related Follows d (λ w c s is r. follows d w c s is (w d) refl r) nothing_open store calls (λ x h. absurd (unopened_opened h))

-- ---- the decisions

-- a drive that has decided is open
pub decided_open : (slot : Slot) {v : Pattern} → decision_of slot ≡ Decided v → (x : Exchange) × (slot ≡ opened x) × (x.decision ≡ Decided v)
unfolding decision_of is_decided
decided_open unopened e = absurd (clash (ap is_decided e) refl)
decided_open (opened x) e = (x, refl, e)

-- so, where a survivor set is untouched, after every run the states kept for the drives that stay up are decided on one
-- number, which a core drive proposed, whatever was kept before
pub kept_agrees : (s : Scenario) → Valid s → Untouched s → (calls : List Call) → Run s calls
    → (v : ℕ) × Proposed s v × ((store : ℕ → Exchange) (d : ℕ) → Up s d → (keep_all leaves store calls d).decision ≡ Decided (record { 0 = v }))
unfolding Agreement
kept_agrees s ok untouched calls run =
    let agreed = agreement s ok untouched calls run in (
      agreed.value,
      agreed.proposed,
      λ store d up. let is = decided_open _ (agreed.final d up) in
          ap (λ x. x.decision) (kept_open leaves (λ x. x) (λ x c. refl) opening_leaves store calls d is.0 is.1) ∙ is.2,
    )
