-- Who is called to send and who closes: the tests of a run's part, made on the world when the round begins, say just
-- what the abstract rounds say.
use mathlib.Core.Path.{◌≡◌, sym, ap, ◌∙◌}
use mathlib.Core.Bool.{true, false, not}
use Prim.Native.Nat.{ℕ, suc, ◌<◌}
use Rattle.drive_sets.specs.Bools.Laws.{clash, false_of, and_intro, and_left, and_right}
use Rattle.drive_sets.specs.Masks.{has, size}
use Rattle.drive_sets.specs.Counts.Laws.{is_drive_range}
use Rattle.sync_crash.specs.Rounds.{InFrame, halted}
use Rattle.sync_crash.proofs.Rounds.Steps.{Active, Sender, Closer, sender_active, closer_active}
use Rattle.runs.specs.World.{World, active}
use Rattle.runs.specs.Scenario.{Scenario, core_of}
use Rattle.runs.specs.Scenario.Laws.{gone_before_law}
use Rattle.runs.specs.Runs.{sender, closer}
use Rattle.agreement.specs.Instance.{instance_of}
use Rattle.runs.specs.Statement.{Valid}
use Rattle.agreement.proofs.Instances.{lawful}
use Rattle.agreement.proofs.States.{state_of}
use Rattle.agreement.proofs.Refinement.{IsUp, Begins}

module _ {s : Scenario} (ok : Valid s) {k : ℕ} (round : k < size (core_of s)) {w₀ : World} (begins : Begins s k w₀) where
  -- ---- who is active

  active_true : (e : ℕ) → Active (instance_of s) k e → active (w₀ e) ≡ true
  unfolding active state_of
  active_true e a = ap active (begins.going round e a)

  true_awake : (e : ℕ) → InFrame (instance_of s) e → IsUp s k e → active (w₀ e) ≡ true → halted (instance_of s) k e ≡ false
  true_awake e f u h = false_of (halted (instance_of s) k e) (λ t. clash h (begins.idle e f u t))

  -- ---- senders

  pub sender_true : {d : ℕ} → Sender (instance_of s) k d → sender s (suc k) w₀ d ≡ true
  unfolding sender
  sender_true {d} h =
      and_intro (and_intro h.in_core (active_true d (sender_active (lawful ok) h))) (ap not (gone_before_law (s.crash d) k) ∙ h.up)

  pub true_sender : (d : ℕ) → sender s (suc k) w₀ d ≡ true → Sender (instance_of s) k d
  unfolding sender
  true_sender d h =
      let in_core : has d (core_of s) ≡ true = search (and_left, and_right) in
      let up : IsUp s k d = sym (ap not (gone_before_law (s.crash d) k)) ∙ search (and_left, and_right) in
      record { in_core = in_core; awake = true_awake d ((lawful ok).in_frame in_core) up (search (and_left, and_right)); up = up }

  -- ---- closers

  pub closer_true : {e : ℕ} → Closer (instance_of s) k e → closer s (suc k) w₀ e ≡ true
  unfolding closer
  closer_true {e} h =
      and_intro (and_intro (is_drive_range s.n e ∙ h.in_frame) (active_true e (closer_active (lawful ok) h))) h.up

  pub true_closer : (e : ℕ) → closer s (suc k) w₀ e ≡ true → Closer (instance_of s) k e
  unfolding closer
  true_closer e h =
      let in_frame : InFrame (instance_of s) e = sym (is_drive_range s.n e) ∙ search (and_left, and_right) in
      let up : IsUp s (suc k) e = search and_right in
      record { in_frame = in_frame; awake = true_awake e in_frame ((lawful ok).no_return up) (search (and_left, and_right)); up = up }
