-- How the drives end depends on the core drives' proposals only, since the rounds do.
use mathlib.Core.Path.{◌≡◌, refl, ap₂}
use mathlib.Core.Bool.{true}
use Prim.Native.Nat.{ℕ, zero, suc}
use Rattle.drive_sets.specs.Lists.Places.{map_same}
use Rattle.drive_sets.specs.Masks.{has, size}
use Rattle.survivor_tables.specs.Tables.{Accepted}
use Rattle.sync_crash.specs.Rounds.{View}
use Rattle.sync_crash.proofs.Rounds.Proposals.{rounds_same}
use Rattle.runs.specs.Scenario.{Crash, stays, crashes, Scenario, frame, core_of}
use Rattle.agreement.specs.Sends.{list_of, reach}
use Rattle.agreement.specs.Instance.{instance_of}
use Rattle.agreement.specs.RoundEndings.{Ending, ending_after, ending_from, ending_of, endings, ListenersFree}
use Rattle.agreement.proofs.Instances.{accepted_lawful}

module _ (s : Scenario) (a : Accepted s.n s.sets) (other : ℕ → ℕ) (same : (d : ℕ) → has d (core_of s) ≡ true → s.proposal d ≡ other d) where
  abbrev changed : Scenario
  changed = record { n = s.n; sets = s.sets; proposal = other; crash = s.crash }

  from_same : (d k m : ℕ) → ending_from (instance_of s) d k m ≡ ending_from (instance_of changed) d k m
  unfolding ending_from reach list_of frame core_of
  from_same d k zero = refl
  from_same d k (suc m) =
      ap₂ (λ (view : ℕ → View) (later : Ending). ending_after (view d).decision (suc k) later) (rounds_same (accepted_lawful s a) other same (suc k)) (from_same d (suc k) m)

  ending_same : (c : Crash) (d : ℕ) → ending_of s c d ≡ ending_of changed c d
  unfolding ending_of core_of
  ending_same stays d = from_same d 0 (size (core_of s))
  ending_same (crashes r m) d = refl

pub listeners_free : ListenersFree
unfolding ListenersFree endings frame
listeners_free s a other same = map_same (λ d. ending_of s (s.crash d) d) (λ d. ending_of (changed s a other same) (s.crash d) d) (frame s) (λ d i. ending_same s a other same (s.crash d) d)
