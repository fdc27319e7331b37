-- Laws of scenarios: when a drive with a CR is gone, and that the frame has each of its drives once.
use Rattle.std.specs.Prelude.{◌≡◌, refl, Bool, true, false, ℕ, suc, ltb}
use Rattle.std.proofs.Common.{ap, arith, ltb-true, leb-false}
use Rattle.std.proofs.Math.Dec.{leb-suc-suc}
use Rattle.std.proofs.lemmas.Bool.{lt-leb}
use Rattle.drive_sets.specs.Bools.Laws.{clash}
use Rattle.drive_sets.specs.Lists.{filter, distinct, ordered}
use Rattle.drive_sets.specs.Lists.Laws.{ordered_range}
use Rattle.drive_sets.specs.Lists.Distinct.{distinct_filter, ordered_distinct}
use Rattle.runs.specs.Scenario.{Crash, stays, crashes, Scenario, frame, gone_before, gone_by, has_crash}

-- ---- crashes

pub crashes_crash : {c : Crash} {q m : ℕ} → c ≡ crashes q m → has_crash c ≡ true
unfolding has_crash
crashes_crash e = ap has_crash e

pub stays_crashes : {q m : ℕ} → stays ≡ crashes q m → ⊥
unfolding has_crash
stays_crashes e = clash (crashes_crash e) refl

pub no_crash_stays : (c : Crash) → has_crash c ≡ false → c ≡ stays
unfolding has_crash
no_crash_stays stays h = refl
no_crash_stays (crashes q m) h = absurd (clash refl h)

-- gone before a round is gone by the round before
pub gone_before_law : (c : Crash) (r : ℕ) → gone_before c (suc r) ≡ gone_by c r
unfolding gone_before gone_by
gone_before_law stays r = refl
gone_before_law (crashes q sends) r = leb-suc-suc q r

pub gone_later : (c : Crash) (k : ℕ) → gone_by c (suc k) ≡ false → gone_by c k ≡ false
unfolding gone_by
gone_later stays k h = refl
gone_later (crashes q m) k h = lt-leb q k (omega (arith, leb-false q (suc k) h))

-- ---- the frame and the lists of drives in it

pub frame_rising : (s : Scenario) → ordered ltb (frame s) ≡ true
unfolding frame
frame_rising s = ordered_range 1 s.n

pub frame_distinct : (s : Scenario) → distinct (frame s) ≡ true
frame_distinct s = ordered_distinct ltb (λ x h. omega (arith, ltb-true x x h)) (frame s) (frame_rising s)

-- no drive stands twice among those of the frame that pass a test
pub kept_distinct : (s : Scenario) (p : ℕ → Bool) → distinct (filter p (frame s)) ≡ true
kept_distinct s p = distinct_filter p (frame s) (frame_distinct s)
