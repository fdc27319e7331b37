-- What the simulated exchange gives: its scenario is valid and has an untouched survivor set, so that every run gives
-- the same, and it reaches agreement.
use mathlib.Core.Path.{◌≡◌, refl, sym, ap, ◌∙◌, subst}
use mathlib.Core.Bool.{true}
use mathlib.Core.List.{List, map}
use mathlib.Core.Logic.{◌↔◌}
use Prim.Native.Nat.{ℕ, zero, suc, ◌+◌, ◌-◌, ◌≤◌, ◌<◌}
use native.Mathlib.Omega.{arith}
use lib.ListN.{length, get_or, length-map}
use Rattle.drive_sets.specs.Bools.Laws.{clash}
use Rattle.drive_sets.specs.Counts.{is_drive}
use Rattle.drive_sets.specs.Counts.Laws.{drive_bounds}
use Rattle.drive_sets.specs.Lists.{range}
use Rattle.drive_sets.specs.Lists.Places.{length_range}
use Rattle.runs.specs.World.{Call}
use Rattle.runs.specs.Scenario.{Crash, stays, crashes, Scenario, frame, has_crash}
use Rattle.runs.specs.CrashRecords.{scenario}
use Rattle.runs.specs.Statement.{Valid, Decides, RunsExist}
use Rattle.agreement.specs.Document01.{Run}
use Rattle.agreement.specs.RoundEndings.{Ending, decides, stopped, ending_of, endings, EndsAgreed, EveryRunGives}
use Rattle.agreement.proofs.SimulatedRuns.{every_run_gives}
use Rattle.agreement.proofs.Theorems.{runs_exist}
use Rattle.simulation.specs.Simulation.{simulated_of}
use Rattle.simulation.specs.Simulation.Laws.{simulated_valid, simulated_gives, simulated_agrees}
use Rattle.promises.specs.Exchange.{ending_in, ExchangeGives, ExchangeOfCall}

-- ---- the ending of a drive

module _ {A : Type 0} (f : ℕ → A) where
  get_or_range : (a k i : ℕ) (other : A) → i < k → get_or (map f (range a k)) i other ≡ f (a + i)
  unfolding range
  get_or_range a zero i other h = absurd (omega arith)
  get_or_range a (suc k) zero other h = ap f (omega arith)
  get_or_range a (suc k) (suc i) other h = get_or_range (suc a) k i other (omega arith) ∙ ap f (omega arith)

stops_there : (s : Scenario) (c : Crash) (d : ℕ) → has_crash c ≡ true → ending_of s c d ≡ stopped
unfolding ending_of has_crash
stops_there s stays d h = absurd (clash h refl)
stops_there s (crashes q m) d h = refl

-- no drive decides before round 1
round_from_law : {s : Scenario} {calls : List Call} (run : Run s calls) (d v q : ℕ) → Decides run d v q → 1 ≤ q
round_from_law run d v zero x = absurd x
round_from_law run d v (suc k) x = omega arith

module _ (s : Scenario) where
  ending_at_law : (d : ℕ) → is_drive s.n d ≡ true → ending_in (endings s) d ≡ ending_of s (s.crash d) d
  unfolding endings frame
  ending_at_law d h =
      let b = drive_bounds s.n d h in
      get_or_range (λ d. ending_of s (s.crash d) d) 1 s.n (d - 1) _ (omega arith) ∙ ap (λ (e : ℕ). ending_of s (s.crash e) e) (omega arith)

  endings_many : length (endings s) ≡ s.n
  unfolding endings frame
  endings_many = length-map (range 1 s.n) (λ d. ending_of s (s.crash d) d) ∙ length_range 1 s.n

  -- ---- what a valid scenario gives that reaches agreement

  valid_gives : Valid s → EndsAgreed s → ExchangeGives s (simulated_of s)
  unfolding EveryRunGives RunsExist
  valid_gives ok agreed = record {
    core = refl;
    stops = refl;
    many = endings_many;
    with_crash = λ d h c. ending_at_law d h ∙ stops_there s (s.crash d) d c;
    every_run = λ calls run d v q u.
        subst (λ (e : Ending). (e ≡ decides v q) ↔ Decides run d v q) (sym (ending_at_law d u.in_frame)) (every_run_gives s ok calls run d v q u);
    some_run = runs_exist s ok;
    value = agreed.value;
    proposed = agreed.proposed;
    agreed = λ d u.
        let soon = agreed.all d u in
        let run = runs_exist s ok in
        record {
          round = soon.round;
          from = round_from_law run.1 d agreed.value soon.round ((every_run_gives s ok run.0 run.1 d agreed.value soon.round u).0 soon.ends);
          up_to = soon.up_to;
          is = ending_at_law d u.in_frame ∙ soon.ends;
        };
  }

pub exchange_of_call : ExchangeOfCall
unfolding ExchangeOfCall
exchange_of_call n sets numbers crs r e patterns =
    let s = scenario n sets numbers crs in
    subst (ExchangeGives s) (sym (simulated_gives n sets numbers crs e))
    (valid_gives s (simulated_valid n sets numbers crs e patterns) (simulated_agrees n sets numbers crs e patterns))
