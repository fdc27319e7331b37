-- The states of a run keep the rules of 28, and know what they should: the drive is in the core just if the instance
-- says so, and the number that it holds of a known drive is that drive's proposal.
use mathlib.Core.Path.{◌≡◌, refl, sym, ◌∙◌}
use mathlib.Core.Bool.{Bool, true, false}
use Prim.Native.Nat.{ℕ, ◌≤◌}
use native.Mathlib.Omega.{arith}
use borrow.Author.Tests.{le-leb}
use Rattle.drive_sets.specs.Bools.{◌⊆◌}
use Rattle.drive_sets.specs.Bools.Laws.{and_intro}
use Rattle.drive_sets.specs.Lists.{range}
use Rattle.drive_sets.specs.Lists.Laws.{elem_range, any_intro}
use Rattle.drive_sets.specs.Masks.{has, full, subset}
use Rattle.drive_sets.specs.Masks.Laws.{subset_full}
use Rattle.drive_sets.specs.Masks.Tests.{set_of, up_to, has_set_of, set_of_within, set_of_some, subset_set_of}
use Rattle.survivor_tables.specs.Tables.{is_frame, is_set}
use Rattle.drive_states.specs.State.{in_core, number_of, broken}
use Rattle.drive_sets.specs.Counts.Laws.{is_drive_range}
use Rattle.drive_states.specs.State.Laws.{Sound, sound_unbroken}
use Rattle.sync_crash.specs.Rounds.{Instance, InFrame, Lawful, knows, before}
use Rattle.sync_crash.proofs.Rounds.Validity.{knows_own, knows_core}
use Rattle.sync_crash.proofs.Rounds.HeardSets.{before_core}
use Rattle.agreement.proofs.States.{Bounded, InRound, known_from, state_of}
use Rattle.agreement.proofs.States.Numbers.{number_at}
use Rattle.agreement.proofs.States.KnownSets.{known_core, known_own}

module _ {S : Instance} (L : Lawful S) (B : Bounded S) where
  open S use {n, core, proposal}

  -- ---- drives of the frame, and sets of core drives

  pub drive_64 : (d : ℕ) → InFrame S d → (1 ≤ d) × (d ≤ 64)
  drive_64 d f = let w = elem_range d 1 n f in (w.0, omega (arith, B.high))

  pub core_within : (p : ℕ → Bool) → p ⊆ core → p ⊆ up_to n
  core_within p f d h = L.in_frame (f d h)

  pub has_core_set : (p : ℕ → Bool) → p ⊆ core → (d : ℕ) → has d (set_of p) ≡ p d
  has_core_set p f d = has_set_of n B.high p (core_within p f) d

  pub core_set_full : (p : ℕ → Bool) → p ⊆ core → subset (set_of p) (full n) ≡ true
  core_set_full p f = subset_full n (set_of p) B.high (set_of_within n B.high p (core_within p f))

  is_frame_law : is_frame n ≡ true
  unfolding is_frame
  is_frame_law = and_intro (le-leb 1 n B.low) (le-leb n 64 B.high)

  core_is_set : is_set n (set_of core) ≡ true
  unfolding is_set
  core_is_set =
      and_intro
      (set_of_some n B.high core (core_within core (λ d h. h)) ∙ any_intro core (range 1 n) B.core_drive (L.in_frame B.in_core) B.in_core)
      (core_set_full core (λ d h. h))

  -- ---- the state of a drive in a round

  module _ {k e : ℕ} {from : ℕ → Bool} (i : InRound S k e from) where
    pub state_in_core : in_core (state_of S k e from) ≡ core e
    unfolding in_core state_of
    state_in_core = has_core_set core (λ d h. h) e

    pub state_number : (d : ℕ) → known_from S k e from d ≡ true → number_of (state_of S k e from) d ≡ proposal d
    unfolding number_of state_of
    state_number d h =
        let b = drive_64 d (L.in_frame (known_core L k e from d h)) in number_at proposal (known_from S k e from) d b.0 b.1 h

    state_sound : Sound (state_of S k e from)
    unfolding state_of
    state_sound = record {
      frame = is_frame_law;
      core = core_is_set;
      own_known = λ h. has_core_set (known_from S k e from) (known_core L k e from) e ∙ known_own L k e from (core_of_state h);
      own_start = λ h. has_core_set (knows S k e) (knows_core L k e) e ∙ knows_own L k (core_of_state h);
      drive = is_drive_range n e ∙ i.in_frame;
      from_one = omega arith;
      to_size = i.round;
      before_core = subset_set_of (before S k e) core (before_core L k e);
      heard_core = subset_set_of from core i.from_core;
      known_core = subset_set_of (known_from S k e from) core (known_core L k e from);
      start_core = subset_set_of (knows S k e) core (knows_core L k e);
    }
      where
        core_of_state : in_core (state_of S k e from) ≡ true → core e ≡ true
        core_of_state h = sym state_in_core ∙ h

    pub state_unbroken : broken (state_of S k e from) ≡ false
    state_unbroken = sound_unbroken (state_of S k e from) state_sound

    pub state_running : (state_of S k e from).halted ≡ false
    unfolding state_of
    state_running = refl
