-- How a drive that stays up ends in the simulated exchange: on v in round r just if the rounds have it decide on v in
-- round r. And the canonical order of calls gives the same.
use mathlib.Core.Path.{◌≡◌, refl, sym, ap, ap₂, ◌∙◌, subst}
use mathlib.Core.Bool.{true}
use mathlib.Core.List.{List, [], ◌∷◌}
use mathlib.Core.Option.{Option, none, some}
use Prim.Native.Nat.{ℕ, zero, suc, ◌+◌, ◌≤◌, ◌<◌}
use native.Mathlib.Omega.{arith}
use lib.Dec.{ltb}
use lib.ListN.{length}
use borrow.Author.Tests.{ltb-true, ltb-false}
use Rattle.drive_sets.specs.Bools.Laws.{by_test, and_left, and_right}
use Rattle.drive_sets.specs.Options.Laws.{by_option, none_some, same_some}
use Rattle.drive_sets.specs.Masks.{size}
use Rattle.agreement.specs.Calls.{decision_on}
use Rattle.sync_crash.specs.Rounds.{Instance, Lawful, DecidesIn, start, after, decision}
use Rattle.sync_crash.proofs.Rounds.Decisions.{decision_later}
use Rattle.runs.specs.World.{Call, World, nothing_open}
use Rattle.agreement.specs.Document01.{apply_all, round_part, round_parts}
use Rattle.runs.specs.Scenario.{Scenario, core_of}
use Rattle.runs.specs.Runs.{nothing_yet}
use Rattle.runs.specs.Runs as any_runs
use Rattle.agreement.specs.Instance.{instance_of}
use Rattle.runs.specs.Statement.{Valid, Up}
use Rattle.agreement.specs.RoundEndings.{Ending, decides, ending_after, ending_from, ending_of}
use Rattle.agreement.specs.Canonical.{opening_calls, canonical_rounds, ending_on, first_decision, canonical_ending, CanonicalGives}
use Rattle.agreement.proofs.Instances.{lawful, correct_stays_up, up_in_frame, up_correct}
use Rattle.agreement.proofs.Refinement.{Begins}
use Rattle.agreement.proofs.Refinement.Opening.{opening_begins}
use Rattle.agreement.proofs.Refinement.Parts.{part_begins}
use Rattle.agreement.proofs.Refinement.Canonical.{openings_canonical, canonical_many, canonical_parts}

-- ---- by the rounds, from any round on

-- d decides on v in round r, one of those before round m + 1
pub record Rounded (S : Instance) (d v r m : ℕ) : Type 0 where
  pub k : ℕ
  pub is : r ≡ suc k
  pub below : k < m
  pub decides_in : DecidesIn S d v k

module _ {S : Instance} (L : Lawful S) (d : ℕ) where
  ending_from_law : (m k : ℕ) → decision S k d ≡ none → {v r : ℕ} → ending_from S d k m ≡ decides v r → Rounded S d v r (k + m)
  unfolding ending_from ending_after
  ending_from_law zero k o h = absurd (let no : ◌≡◌ {A = ℕ} 0 1 = cc in omega arith)
  ending_from_law (suc m) k o {v} {r} h =
      by_option (decision S (suc k) d)
      (λ n. let t = ending_from_law m (suc k) n (rw n at h) in
      record { k = t.k; is = t.is; below = omega (arith, t.below); decides_in = t.decides_in })
      (λ x y. let e = rw y at h in
      let same : x ≡ v = cc in
      record { k = k; is = cc; below = omega arith; decides_in = record { undecided = o; decided = y ∙ ap some same } })

  from_ending : (m k : ℕ) {v j : ℕ} → k ≤ j → j < k + m → DecidesIn S d v j → ending_from S d k m ≡ decides v (suc j)
  unfolding ending_from ending_after
  from_ending zero k {j = j} h l i = absurd (omega (arith, h, l))
  from_ending (suc m) k {v} {j} h l i =
      by_option (decision S (suc k) d)
      (λ n. rw n (from_ending m (suc k) (later n) (omega arith) i))
      (λ x y. rw y (same y))
    where
      later : decision S (suc k) d ≡ none → suc k ≤ j
      later n =
          by_test (ltb k j) (ltb-true k j)
          (λ t. absurd (none_some n (decision_later L d (omega (arith, ltb-false k j t)) i.decided)))

      same : {x : ℕ} → decision S (suc k) d ≡ some x → decides x (suc k) ≡ decides v (suc j)
      same y =
          by_test (ltb k j)
          (λ t. absurd (none_some i.undecided (decision_later L d (ltb-true k j t) y)))
          (λ t. ap₂ decides (same_some y (decision_later L d (omega (arith, ltb-false k j t)) i.decided)) (omega (arith, h, ltb-false k j t)))

-- ---- a drive that stays up

module _ {s : Scenario} (ok : Valid s) {d : ℕ} (u : Up s d) where
  ending_up : ending_of s (s.crash d) d ≡ ending_from (instance_of s) d 0 (size (core_of s))
  unfolding ending_of
  ending_up = ap (λ c. ending_of s c d) u.stay

  pub ending_rounds : {v r : ℕ} → ending_of s (s.crash d) d ≡ decides v r → Rounded (instance_of s) d v r (size (core_of s))
  unfolding after start
  ending_rounds {v} {r} h =
      subst (Rounded (instance_of s) d v r) (omega arith) (ending_from_law (lawful ok) d (size (core_of s)) 0 refl (sym ending_up ∙ h))

  pub rounds_ending : {v k : ℕ} → k < size (core_of s) → DecidesIn (instance_of s) d v k → ending_of s (s.crash d) d ≡ decides v (suc k)
  rounds_ending l i = ending_up ∙ from_ending (lawful ok) d (size (core_of s)) 0 (omega arith) (omega (arith, l)) i

  -- ---- the canonical order of calls

  same_ending : (o : Option ℕ) (r : ℕ) (later : Ending) → ending_on (decision_on o) r later ≡ ending_after o r later
  unfolding ending_on decision_on ending_after
  same_ending none r later = refl
  same_ending (some v) r later = refl

  -- the parts ps are those of rounds k + 1, ..
  parts_give : (ps : List (List Call)) (k : ℕ) (w : World) → Begins s k w → k + length ps ≤ size (core_of s) → round_parts s (suc k) w ps ≡ true
      → first_decision d (suc k) w ps ≡ ending_from (instance_of s) d k (length ps)
  unfolding first_decision ending_from any_runs.round_parts
  parts_give [] k w b few t = refl
  parts_give (p ∷ ps) k w b few t =
      let now = round_part s (suc k) w nothing_yet w p in
      let next = part_begins ok (omega arith) b p (and_left now _ t) in
      ap₂ (λ x later. ending_on x (suc k) later)
      (next.decided d (up_in_frame s u) (correct_stays_up s d (up_correct s u) (suc k))) (parts_give ps (suc k) (apply_all w p) next (omega arith) (and_right now _ t))
      ∙ same_ending (decision (instance_of s) (suc k) d) (suc k) (ending_from (instance_of s) d (suc k) (length ps))

  canonical_ending_law : canonical_ending s d ≡ ending_of s (s.crash d) d
  canonical_ending_law =
      parts_give (canonical_rounds s) 0 (apply_all nothing_open (opening_calls s)) (opening_begins ok (opening_calls s) (openings_canonical ok))
      (omega (arith, canonical_many ok)) (canonical_parts ok)
      ∙ (ap (ending_from (instance_of s) d 0) (canonical_many ok) ∙ sym ending_up)

pub canonical_gives : CanonicalGives
unfolding CanonicalGives
canonical_gives s ok d u = canonical_ending_law ok u
