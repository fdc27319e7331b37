-- The simulated exchange: every run of a scenario gives what it gives, and where a survivor set is untouched every
-- drive that stays up decides in it, on the agreed number, in a round up to f + 1.
use mathlib.Core.Path.{◌≡◌, sym, subst}
use mathlib.Core.List.{List}
use Prim.Native.Nat.{ℕ, zero, suc}
use Rattle.runs.specs.World.{Call}
use Rattle.runs.specs.Scenario.{Scenario}
use Rattle.agreement.specs.Document01.{Run}
use Rattle.runs.specs.Statement.{Valid, Up, Decides, Agreement}
use Rattle.agreement.specs.Canonical.{canonical}
use Rattle.agreement.specs.RoundEndings.{decides, ending_of, EveryRunGives, EndsAsAgreed, SimulatedAgreement}
use Rattle.agreement.proofs.Refinement.Canonical.{canonical_run}
use Rattle.agreement.proofs.Refinement.Endings.{ending_rounds, rounds_ending}
use Rattle.agreement.proofs.Refinement.Runs.{rounds_decide, decides_rounds}
use Rattle.agreement.proofs.Theorems.{agreement}

-- ---- every run gives what the simulated exchange gives

module _ {s : Scenario} (ok : Valid s) {calls : List Call} (run : Run s calls) {d : ℕ} (u : Up s d) where
  ending_decides : {v r : ℕ} → ending_of s (s.crash d) d ≡ decides v r → Decides run d v r
  ending_decides {v} h =
      let t = ending_rounds ok u h in
      subst (Decides run d v) (sym t.is) (rounds_decide ok run d v t.k t.below t.decides_in)

  decides_ending : (v r : ℕ) → Decides run d v r → ending_of s (s.crash d) d ≡ decides v r
  decides_ending v zero x = absurd x
  decides_ending v (suc k) x = let t = decides_rounds ok run d v k x in rounds_ending ok u t.0 t.1

pub every_run_gives : EveryRunGives
unfolding EveryRunGives
every_run_gives s ok calls run d v r u = (ending_decides ok run u, decides_ending ok run u v r)

-- ---- agreement

pub ends_as_agreed : EndsAsAgreed
unfolding EndsAsAgreed
ends_as_agreed s ok untouched calls run agreed d u =
    let t = agreed.all d u in
    record { round = t.round; up_to = t.up_to; ends = decides_ending ok run u agreed.value t.round t.decides }

pub simulated_agreement : SimulatedAgreement
unfolding SimulatedAgreement Agreement EndsAsAgreed
simulated_agreement s ok untouched =
    let agreed = agreement s ok untouched (canonical s) (canonical_run ok) in
    record {
      value = agreed.value;
      proposed = agreed.proposed;
      all = ends_as_agreed s ok untouched (canonical s) (canonical_run ok) agreed;
    }
