-- Demand 3 on whole lists of calls, for every accepted table: agreement by round f + 1 in every run of a scenario with
-- an untouched survivor set; that every run of a scenario gives what the rules give, and so the same as every other;
-- that there is one; and that round f + 1 is needed.
use mathlib.Core.Path.{◌≡◌, sym, ap, ◌∙◌}
use mathlib.Core.Bool.{true}
use mathlib.Core.List.{List}
use Prim.Native.Nat.{ℕ, zero, suc, ◌<◌}
use native.Mathlib.Omega.{arith}
use Rattle.drive_sets.specs.Masks.{has, size}
use Rattle.agreement.specs.Calls.{decision_on}
use Rattle.sync_crash.proofs.Rounds.Agreement as rounds
use Rattle.sync_crash.proofs.Rounds.Agreement.{failures_below_core}
use Rattle.runs.specs.World.{Call}
use Rattle.runs.specs.Scenario.{stays, Scenario, core_of}
use Rattle.agreement.specs.Document01.{document01, Run, ByRules}
use Rattle.agreement.specs.Instance.{instance_of, correct}
use Rattle.runs.specs.Statement.{Valid, Up, core_crashes, Decides, Agreed, Agreement, Tight, RunsExist, SameResult}
use Rattle.agreement.specs.Canonical.{canonical}
use Rattle.agreement.proofs.Instances.{lawful, core_size, crashes_failures, untouched_core, stay_correct, correct_stays_up, up_in_frame, up_correct}
use Rattle.agreement.proofs.Tight.{bound_reached}
use Rattle.agreement.proofs.Refinement.Canonical.{canonical_run}
use Rattle.agreement.proofs.Refinement.Runs.{final_decision, rounds_decide, decides_rounds}

-- ---- a drive decides in a round exactly when the rules of document 01 give it

pub by_rules : ByRules
unfolding ByRules
by_rules s ok calls run d v k = (decides_rounds ok run d v k, λ h. rounds_decide ok run d v k h.0 h.1)

-- ---- so the order of the calls does not matter

pub same_result : SameResult document01
unfolding SameResult
same_result s ok calls calls' run run' = record { decides = decides; final = λ d u. final_decision ok run u ∙ sym (final_decision ok run' u) }
  where
    decides : (d v r : ℕ) → Decides run d v r → Decides run' d v r
    decides d v zero x = absurd x
    decides d v (suc k) x = let r = decides_rounds ok run d v k x in rounds_decide ok run' d v k r.0 r.1

-- ---- agreement

-- where p, a core drive, stays up
module _ {s : Scenario} (ok : Valid s) (p : ℕ) (in_core : has p (core_of s) ≡ true) (stay : s.crash p ≡ stays) where
  rounds_agree : rounds.Agreement (instance_of s) (correct s)
  rounds_agree = rounds.agreement (lawful ok) (correct s) (correct_stays_up s) p in_core (stay_correct s p stay)

  -- round f + 1 comes
  crashes_below : core_crashes s < size (core_of s)
  crashes_below =
      omega (arith, crashes_failures ok, core_size ok, failures_below_core (lawful ok) (correct s) (correct_stays_up s) p in_core (stay_correct s p stay))

  agreed : {calls : List Call} (run : Run s calls) → Agreed run
  unfolding decision_on
  agreed run = record {
    value = rounds_agree.value;
    proposed = record { by = rounds_agree.proposed.by; in_core = rounds_agree.proposed.in_core; is = rounds_agree.proposed.is };
    all = λ d u.
        let r = rounds_agree.all d (up_in_frame s u) (up_correct s u) in
        record {
          round = suc r.0;
          up_to = omega (arith, r.1, crashes_failures ok);
          decides = rounds_decide ok run d rounds_agree.value r.0 (omega (arith, r.1, crashes_failures ok, crashes_below)) r.2;
        };
    only = only;
    final = λ d u. final_decision ok run u
        ∙ ap decision_on (rounds_agree.stands d (size (core_of s)) (up_in_frame s u) (up_correct s u) (omega (arith, crashes_failures ok, crashes_below)));
  }
    where
      only : (d v r : ℕ) → Up s d → Decides run d v r → v ≡ rounds_agree.value
      only d v zero u x = absurd x
      only d v (suc k) u x = rounds_agree.only d k (up_in_frame s u) (up_correct s u) (decides_rounds ok run d v k x).1

pub agreement : Agreement document01
unfolding Agreement
agreement s ok untouched calls run = let p = untouched_core ok untouched in agreed ok p.0 p.1 p.2 run

-- ---- every scenario has a run, so that none of this is empty

pub runs_exist : RunsExist document01
unfolding RunsExist
runs_exist s ok = (canonical s, canonical_run ok)

-- ---- the bound is reached

pub tight : Tight document01
unfolding Tight
tight n sets accepted proposal patterns f few = bound_reached n sets accepted proposal patterns f few
