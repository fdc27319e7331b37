-- The part of a round: whatever call comes next, due or refused, the world goes on following the abstract round; and
-- when the part is complete, the next round begins.
use mathlib.Core.Path.{◌≡◌, refl, sym, ap, ◌∙◌, subst, fun_ext}
use mathlib.Core.Bool.{true, not, ◌||◌}
use mathlib.Core.Logic.{inl, ⊎_elim}
use mathlib.Core.List.{List, [], ◌∷◌}
use Prim.Native.Nat.{ℕ, suc, ◌<◌}
use lib.ListN.{get_or}
use borrow.Author.Tests.{not-true}
use Rattle.drive_sets.specs.Bools.Laws.{clash, by_test, and_left, and_right, or_left, or_second, or_cases}
use Rattle.drive_sets.specs.Lists.{filter, all}
use Rattle.drive_sets.specs.Lists.Laws.{first_kept_passes, all_elem}
use Rattle.drive_sets.specs.Masks.{size}
use Rattle.agreement.specs.Calls.{decision_on, next}
use Rattle.sync_crash.specs.Rounds.{InFrame, halted}
use Rattle.sync_crash.proofs.Rounds.Steps.{Closer, halted_view, active_closed}
use Rattle.runs.specs.World.{Call, opens, sends, delivers, closes, opened, World, active, decision_of}
use Rattle.agreement.specs.Document01.{document01, apply, apply_all, undelivered, due, noted, round_part}
use Rattle.runs.specs.World as worlds
use Rattle.runs.specs.World.Laws.{refused_keeps}
use Rattle.runs.specs.Scenario.{Scenario, core_of, frame}
use Rattle.runs.specs.Runs.{RoundProgress, nothing_yet, closer, complete}
use Rattle.runs.specs.Runs as any_runs
use Rattle.agreement.specs.Instance.{instance_of}
use Rattle.runs.specs.Statement.{Valid}
use Rattle.agreement.proofs.Instances.{lawful, bounded, core_round}
use Rattle.agreement.proofs.States.{state_of}
use Rattle.agreement.proofs.States.Closing.{next_decision, next_halted, next_state}
use Rattle.agreement.proofs.Refinement.{reaches_in, IsUp, Begins, Follows, progress_after, allowed}
use Rattle.agreement.proofs.Refinement.Participants.{closer_true}
use Rattle.agreement.proofs.Refinement.Calls.{follows_sends, follows_delivers, follows_closes}

module _ {s : Scenario} (ok : Valid s) {k : ℕ} (round : k < size (core_of s)) {w₀ : World} (begins : Begins s k w₀) where
  -- ---- one call

  follows_due : (b : RoundProgress) (w : World) (c : Call) → Follows s k w₀ b w → due s (suc k) w₀ b w c ≡ true → Follows s k w₀ (noted s (suc k) w₀ b w c) (apply w c)
  unfolding any_runs.due any_runs.noted worlds.apply
  follows_due b w (opens d n sets own number) g t = absurd (clash t refl)
  follows_due b w (sends d room start) g t = follows_sends ok round begins g d room start t
  follows_due b w (delivers e bytes) g t =
      follows_delivers ok round begins g e bytes (get_or (filter (undelivered s (suc k) w₀ b e bytes) (frame s)) 0 0) (first_kept_passes (undelivered s (suc k) w₀ b e bytes) (frame s) t)
  follows_due b w (closes e) g t = follows_closes ok round begins g e t

  pub follows_call : (b : RoundProgress) (w : World) (c : Call) → Follows s k w₀ b w → allowed s k w₀ b w c ≡ true → Follows s k w₀ (progress_after s k w₀ b w c) (apply w c)
  follows_call b w c g t =
      by_test (due s (suc k) w₀ b w c)
      (λ h. rw h (follows_due b w c g h))
      (λ h. rw h (subst (Follows s k w₀ b) (sym (fun_ext (refused_keeps document01 w c (or_second _ _ h ∙ t)))) g))

  -- ---- the whole part

  pub follows_start : Follows s k w₀ nothing_yet w₀
  unfolding nothing_yet
  follows_start = record {
    sent = λ d. inl refl;
    delivered = λ d e h. absurd (clash h refl);
    closed = λ e h. absurd (clash h refl);
    going = λ e a h. begins.going round e a;
    ended = λ e h. absurd (clash h refl);
    idle = λ e f u h. refl;
  }

  -- every closer has closed
  pub closer_closed : (b : RoundProgress) → complete s (suc k) w₀ b ≡ true → {e : ℕ} → Closer (instance_of s) k e → b.closed e ≡ true
  unfolding complete frame
  closer_closed b t {e} c =
      ⊎_elim
      (λ h. absurd (clash (closer_true ok round begins c) (not-true _ h)))
      (λ h. h)
      (or_cases (not (closer s (suc k) w₀ e)) _
      (all_elem (λ y. not (closer s (suc k) w₀ y) || b.closed y) (frame s) e (and_right (all _ (frame s)) _ t) c.in_frame))

  -- what holds of the world at the end
  record Ended (w : World) : Type 0 where
    progress : RoundProgress
    follows : Follows s k w₀ progress w
    is_complete : complete s (suc k) w₀ progress ≡ true

  part_ended : (b : RoundProgress) (w : World) (calls : List Call) → Follows s k w₀ b w → round_part s (suc k) w₀ b w calls ≡ true → Ended (apply_all w calls)
  unfolding any_runs.round_part worlds.apply_all
  part_ended b w [] g t = record { progress = b; follows = g; is_complete = t }
  part_ended b w (c ∷ calls) g t =
      part_ended (progress_after s k w₀ b w c) (apply w c) calls (follows_call b w c g (and_left (allowed s k w₀ b w c) _ t)) (and_right (allowed s k w₀ b w c) _ t)

  -- ---- the next round

  module _ {w : World} (z : Ended w) where
    closed_state : {e : ℕ} → Closer (instance_of s) k e → w e ≡ opened (next (state_of (instance_of s) k e (λ d. reaches_in s k d e)))
    closed_state {e} c = z.follows.ended e (closer_closed z.progress z.is_complete c)

    -- a drive that was going on has closed, and one that had halted is as it was
    by_halted {ℓ} : {C : Type ℓ} (e : ℕ) → InFrame (instance_of s) e → IsUp s (suc k) e
        → (Closer (instance_of s) k e → C) → (halted (instance_of s) k e ≡ true → w e ≡ w₀ e → C) → C
    by_halted e f u going idle =
        by_test (halted (instance_of s) k e)
        (λ h. idle h (z.follows.idle e f ((lawful ok).no_return u) h))
        (λ h. going (record { in_frame = f; awake = h; up = u }))

    next_begins : Begins s (suc k) w
    unfolding active decision_of
    next_begins = record {
      going = λ later e a.
          let c = active_closed (lawful ok) a in
          closed_state c ∙ ap opened (next_state (lawful ok) (bounded ok) (core_round ok round) c a.awake (core_round ok later));
      idle = λ e f u h. by_halted e f u
          (λ c. ap active (closed_state c) ∙ ap not (next_halted (lawful ok) (bounded ok) (core_round ok round) c ∙ or_left _ h))
          (λ was same. ap active same ∙ begins.idle e f ((lawful ok).no_return u) was);
      decided = λ e f u. by_halted e f u
          (λ c. ap decision_of (closed_state c) ∙ next_decision (lawful ok) (bounded ok) (core_round ok round) c)
          (λ was same. ap decision_of same
          ∙ (begins.decided e f ((lawful ok).no_return u) ∙ ap (λ view. decision_on view.decision) (sym (halted_view (lawful ok) k e was))));
    }

  pub part_begins : (calls : List Call) → round_part s (suc k) w₀ nothing_yet w₀ calls ≡ true → Begins s (suc k) (apply_all w₀ calls)
  part_begins calls t = next_begins (part_ended nothing_yet w₀ calls follows_start t)
