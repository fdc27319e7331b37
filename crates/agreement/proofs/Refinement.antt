-- A run follows the abstract rounds (section 4 of docs/AGREEMENT.md, "Refinement"): what the world is when a round
-- begins, and what it is, with the round's progress, at any time in its part. Each is stated as equality with a state
-- that the abstract rounds give.
use mathlib.Core.Path.{◌≡◌}
use mathlib.Core.Bool.{Bool, true, false, ◌||◌, cond}
use mathlib.Core.Logic.{◌⊎◌}
use Prim.Native.Nat.{ℕ, suc, ◌<◌}
use Rattle.drive_sets.specs.Masks.{has, size}
use Rattle.agreement.specs.Calls.{decision_on, next}
use Rattle.sync_crash.specs.Rounds.{InFrame, reaches, after, decision, halted}
use Rattle.sync_crash.proofs.Rounds.Steps.{Active, Sender}
use Rattle.runs.specs.World.{Call, opened, World, active, decision_of}
use Rattle.agreement.specs.Document01.{refused_in, due, noted}
use Rattle.runs.specs.Scenario.{Scenario, core_of}
use Rattle.runs.specs.Runs.{Sent, pending, wrote, RoundProgress, is_called}
use Rattle.agreement.specs.Instance.{instance_of}
use Rattle.agreement.proofs.States.{state_of, message_of}
pub mod Opening
pub mod Participants
pub mod Calls
pub mod Parts
pub mod Runs
pub mod CanonicalRounds
pub mod Canonical
pub mod Endings

module _ (s : Scenario) (k : ℕ) where
  -- d reaches e in round k + 1
  abbrev pub reaches_in : ℕ → ℕ → Bool
  reaches_in d e = reaches (instance_of s) (after (instance_of s) k) k d e

  -- e has no CR up to round k
  abbrev pub IsUp : ℕ → Type 0
  IsUp e = (instance_of s).alive k e ≡ true

  -- ---- when round k + 1 begins, or after the last round

  pub record Begins (w : World) : Type 0 where
    -- a drive that takes part has accepted nothing yet
    pub going : k < size (core_of s) → (e : ℕ) → Active (instance_of s) k e → w e ≡ opened (state_of (instance_of s) k e (λ d. false))
    pub idle : (e : ℕ) → InFrame (instance_of s) e → IsUp e → halted (instance_of s) k e ≡ true → active (w e) ≡ false
    pub decided : (e : ℕ) → InFrame (instance_of s) e → IsUp e → decision_of (w e) ≡ decision_on (decision (instance_of s) k e)

  -- ---- in the part of round k + 1, w₀ being the world when it began

  -- d has made its send
  pub record HasSent (sent : ℕ → Sent) (d : ℕ) : Type 0 where
    pub sender : Sender (instance_of s) k d
    pub written : sent d ≡ wrote (message_of (instance_of s) k d)

  -- e has closed, after its own send and all messages to it
  pub record HasClosed (b : RoundProgress) (e : ℕ) : Type 0 where
    pub all_came : (d : ℕ) → reaches_in d e ≡ true → b.delivered d e ≡ true
    pub own_sent : has e (core_of s) ≡ true → is_called (b.sent e) ≡ true

  pub record Follows (w₀ : World) (b : RoundProgress) (w : World) : Type 0 where
    pub sent : (d : ℕ) → (b.sent d ≡ pending) ⊎ HasSent b.sent d
    pub delivered : (d e : ℕ) → b.delivered d e ≡ true → reaches_in d e ≡ true
    pub closed : (e : ℕ) → b.closed e ≡ true → HasClosed b e
    pub going : (e : ℕ) → Active (instance_of s) k e → b.closed e ≡ false → w e ≡ opened (state_of (instance_of s) k e (λ d. b.delivered d e))
    pub ended : (e : ℕ) → b.closed e ≡ true → w e ≡ opened (next (state_of (instance_of s) k e (λ d. reaches_in d e)))
    pub idle : (e : ℕ) → InFrame (instance_of s) e → IsUp e → halted (instance_of s) k e ≡ true → w e ≡ w₀ e

  -- ---- one call of the part

  -- whether it may stand there, being due or refused, and the progress after it
  module _ (w₀ : World) where
    abbrev pub allowed : RoundProgress → World → Call → Bool
    allowed b w c = due s (suc k) w₀ b w c || refused_in w c

    abbrev pub progress_after : RoundProgress → World → Call → RoundProgress
    progress_after b w c = cond (due s (suc k) w₀ b w c) (noted s (suc k) w₀ b w c) b
