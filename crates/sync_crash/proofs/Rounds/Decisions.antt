-- How a drive comes to its decision: by an announcement, or by a stable round; and the round in which it does.
use Rattle.std.specs.Prelude.{◌≡◌, true, false, ◌⊎◌, leb}
use Rattle.std.proofs.Math.Path.{refl, sym, ap, fun_ext}
use Rattle.std.proofs.Common.{◌∙◌, subst, inl, inr, leb-true, leb-false}
use Rattle.std.proofs.Math.Option.{none, some, or_else}
use Prim.Native.Nat.{ℕ, zero, suc, ◌≤◌, ◌<◌}
use Rattle.std.proofs.Math.Nat.{le_refl}
use native.Mathlib.Omega.{arith}
use Rattle.std.proofs.Math.Decide.{le_ind}
use Rattle.drive_sets.specs.Bools.Laws.{by_test, cond_true, cond_false}
use Rattle.drive_sets.specs.Options.{is_some}
use Rattle.drive_sets.specs.Options.Laws.{by_option, none_some, same_some, is_some_law, some_of}
use Rattle.drive_sets.specs.Lists.{range}
use Rattle.drive_sets.specs.Lists.FirstSome.{first_elem, first_none}
use Rattle.sync_crash.specs.Rounds.{Instance, Lawful, start, smallest_of, announces, announced, stable, if_stable, decides, reaches, after, knows, decision, DecidesIn}
use Rattle.sync_crash.proofs.Rounds.Steps.{Reaches, Closer, reaches_true, true_reaches, by_close, knows_now, decision_now, decision_stays}

-- v is announced to e in round k + 1; the value of the lowest-numbered announcer counts
pub record Announcement (S : Instance) (k e v : ℕ) : Type 0 where
  pub lowest : announced S (after S k) k e ≡ some v
  pub from : ℕ
  pub reached : Reaches S k from e
  pub made : decision S k from ≡ some v

-- e closes round k + 1 undecided, with no announcement and with heard not empty and as in the round before
pub record StableClose (S : Instance) (k e : ℕ) : Type 0 where
  pub closer : Closer S k e
  pub undecided : decision S k e ≡ none
  pub unannounced : announced S (after S k) k e ≡ none
  pub same : stable S (after S k) k e ≡ true

module _ {S : Instance} (L : Lawful S) where
  open S use {n}
  open L use {in_frame}

  -- ---- announcements

  pub announced_none : {k d e : ℕ} → announced S (after S k) k e ≡ none → Reaches S k d e → decision S k d ≡ none
  unfolding announced announces
  announced_none {k} {d} {e} h r =
      sym (cond_true _ _ (true_reaches L r))
      ∙ first_none (λ d. announces S (after S k) k d e) (range 1 n) d h (in_frame r.sender.in_core)

  pub announced_some : {k d e v : ℕ} → Reaches S k d e → decision S k d ≡ some v → (w : ℕ) × (announced S (after S k) k e ≡ some w)
  announced_some {k} {d} {e} r m =
      by_option (announced S (after S k) k e) (λ h. absurd (none_some (announced_none h r) m)) (λ w h. (w, h))

  pub announced_by : (k e : ℕ) {v : ℕ} → announced S (after S k) k e ≡ some v → Announcement S k e v
  unfolding announced announces
  announced_by k e h =
      let w = first_elem (λ d. announces S (after S k) k d e) (range 1 n) h in
      let d = w.0 in
      by_test (reaches S (after S k) k d e)
      (λ t. record { lowest = h; from = d; reached = reaches_true L k d e t; made = sym (cond_true _ _ t) ∙ w.2 })
      (λ t. absurd (none_some (cond_false _ _ t) w.2))

  -- a drive that has decided is none that has not
  pub undecided_other : (k e d : ℕ) {v : ℕ} → decision S k e ≡ none → decision S k d ≡ some v → e ≡ d → ⊥
  undecided_other k e d o m q = none_some (subst (λ (z : ℕ). decision S k z ≡ none) q o) m

  -- ---- the three ways to close undecided

  module _ {k e : ℕ} (c : Closer S k e) (o : decision S k e ≡ none) where
    pub decides_announced : {v : ℕ} → announced S (after S k) k e ≡ some v → decision S (suc k) e ≡ some v
    unfolding decides or_else
    decides_announced h = decision_now L c ∙ rw (o, h) refl

    -- who hears an announcement has decided at the close
    pub reached_decides : {d v : ℕ} → Reaches S k d e → decision S k d ≡ some v → is_some (decision S (suc k) e) ≡ true
    reached_decides r m = is_some_law (decides_announced (announced_some r m).1)

    pub goes_on : announced S (after S k) k e ≡ none → stable S (after S k) k e ≡ false → decision S (suc k) e ≡ none
    unfolding decides or_else if_stable
    goes_on h q = decision_now L c ∙ rw (o, h, q) refl

  pub decides_stable : {k e : ℕ} → StableClose S k e → decision S (suc k) e ≡ smallest_of S (knows S (suc k) e)
  unfolding decides or_else if_stable
  decides_stable q =
      decision_now L q.closer
      ∙ (rw (q.undecided, q.unannounced, q.same) refl ∙ ap (smallest_of S) (fun_ext (λ x. sym (knows_now L q.closer x))))

  -- who decides in round k + 1 closes it
  pub decider_closes : (k e : ℕ) {v : ℕ} → decision S k e ≡ none → decision S (suc k) e ≡ some v → Closer S k e
  decider_closes k e o m = by_close L k e (λ c. c) (λ q. absurd (none_some (ap (λ a. a.decision) q ∙ o) m))

  -- a drive that decides in round k + 1 got an announcement, or found the round stable
  pub how_decided : (k e : ℕ) {v : ℕ} → decision S k e ≡ none → decision S (suc k) e ≡ some v
      → Announcement S k e v ⊎ (StableClose S k e × (smallest_of S (knows S (suc k) e) ≡ some v))
  how_decided k e o m =
      let c = decider_closes k e o m in
      by_option (announced S (after S k) k e)
      (λ h. by_test (stable S (after S k) k e)
      (λ t. let q : StableClose S k e = record { closer = c; undecided = o; unannounced = h; same = t } in inr (q, sym (decides_stable q) ∙ m))
      (λ t. absurd (none_some (goes_on c o h t) m)))
      (λ w h. inl (announced_by k e (h ∙ ap some (same_some (decides_announced c o h) m))))

  -- ---- the round of a decision

  pub decided_stays : (k d : ℕ) → is_some (decision S k d) ≡ true → is_some (decision S (suc k) d) ≡ true
  decided_stays k d h = is_some_law (decision_stays L k d (some_of (decision S k d) h).1)

  pub decision_later : {k m : ℕ} (e : ℕ) {v : ℕ} → k ≤ m → decision S k e ≡ some v → decision S m e ≡ some v
  decision_later {m = m} e {v} h q = le_ind (λ j. decision S j e ≡ some v) q (λ j l t. decision_stays L j e t) m h

  -- a drive decides once
  pub decides_once : {e w k v : ℕ} (m : ℕ) → DecidesIn S e w k → decision S m e ≡ some v → w ≡ v
  decides_once {e} {w} {k} m d q =
      by_test (leb m k)
      (λ t. absurd (none_some d.undecided (decision_later e (leb-true m k t) q)))
      (λ t. same_some (decision_later e (leb-false m k t) d.decided) q)

  pub decision_round : (m e : ℕ) {v : ℕ} → decision S m e ≡ some v → (k : ℕ) × (k < m) × DecidesIn S e v k
  unfolding after start
  decision_round zero e h = absurd (none_some refl h)
  decision_round (suc m) e h =
      by_option (decision S m e) (λ o. (m, le_refl (suc m), record { undecided = o; decided = h }))
      (λ u q. let r = decision_round m e (q ∙ ap some (same_some (decision_stays L m e q) h)) in (r.0, omega arith, r.2))
