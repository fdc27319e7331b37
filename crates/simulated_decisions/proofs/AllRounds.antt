-- The loop of the rounds: what was found so far, and else what the rounds to come give, is what all rounds give.
use Rattle.std.specs.Prelude.{Option, None, Some}
use mathlib.Core.Path.{◌≡◌, refl, sym, ap, ap₂, ◌∙◌, subst}
use mathlib.Core.Bool.{true}
use mathlib.Core.List.{List}
use Prim.Native.Nat.{ℕ, suc, ◌+◌, ◌-◌, ◌≤◌, ◌<◌}
use native.Mathlib.Numerals.{add-one}
use native.Mathlib.Omega.{arith}
use Rattle.drive_sets.specs.Masks.{size}
use Rattle.drive_states.specs.declared.Exchange.{Exchange}
use Rattle.drive_states.specs.declared.Decision.{Decision}
use Rattle.drive_states.specs.declared.Decision.TheVariants.{Undecided, Decided}
use Rattle.drive_sets.specs.Counts.{is_drive}
use Rattle.runs.specs.World.{World, nothing_open, decision_of}
use Rattle.agreement.specs.Document01.{apply_all}
use Rattle.runs.specs.Scenario.{Scenario, core_of}
use Rattle.agreement.specs.RoundEndings.{Ending, decides, undecided, stopped}
use Rattle.agreement.specs.Canonical.{opening_calls, round_calls, rounds_from, canonical_rounds, ending_on, first_decision, canonical_ending}
use Rattle.drive_crashes.specs.declared.Crashes.{Crashes}
use Rattle.simulated_decisions.specs.declared.noting.First.{First}
use Rattle.simulated_sends.specs.States.{state_at, world_of}
use Rattle.simulated_rounds.specs.Rounds.{Says}
use Rattle.simulated_decisions.specs.Endings.{ending_by, first_of, found_of, nothing_found, or_later}
use Rattle.simulated_decisions.proofs.FirstDecisions.{nothing_found_law}
use Rattle.simulated_sends.proofs.Worlds.{world_at}

-- ---- the first decision counts

or_none : (e : Ending) → or_later e undecided ≡ e
unfolding or_later
or_none (decides v r) = refl
or_none undecided = refl
or_none stopped = refl

or_on : (e : Ending) (decision : Decision) (r : ℕ) (later : Ending) → or_later (or_later e (ending_on decision r undecided)) later ≡ or_later e (ending_on decision r later)
unfolding or_later ending_on
or_on (decides v q) decision r later = refl
or_on stopped decision r later = refl
or_on undecided Undecided r later = refl
or_on undecided (Decided v) r later = refl

or_decided : (first : Option First) (later : Ending) → (first ≡ None → ⊥) → or_later (ending_by first) later ≡ ending_by first
unfolding or_later ending_by
or_decided None later some = absurd (some refl)
or_decided (Some first) later some = refl

-- ---- the rounds to come

module _ (s : Scenario) (d : ℕ) where
  -- what so many rounds from round r on give
  abbrev pub given : ℕ → ℕ → World → Ending
  given k r w = first_decision d r w (rounds_from s k r w)

  -- one round and then the others
  given_step : (k r : ℕ) (w w' : World) (e : Ending) → w' ≡ apply_all w (round_calls s r w)
      → or_later (or_later e (ending_on (decision_of (w' d)) r undecided)) (given k (suc r) w') ≡ or_later e (given (suc k) r w)
  unfolding first_decision rounds_from
  given_step k r w w' e h =
      or_on e (decision_of (w' d)) r (given k (suc r) w')
      ∙ ap (λ (v : World). or_later e (ending_on (decision_of (v d)) r (given k (suc r) v))) h

-- ---- the loop

module _ (n core : ℕ) (c : Crashes) (states₀ : List Exchange) where
  -- the rounds before round r are done
  pub record Running (states : List Exchange) (found : List (Option First)) (r : ℕ) : Type 0 where
    pub up_to : r ≤ suc (size core)
    pub same : (s : Scenario) → Says n core c s → (d : ℕ) → is_drive n d ≡ true
        → or_later (found_of found d) (given s d (suc (size core) - r) r (world_of n states)) ≡ given s d (size core) 1 (world_of n states₀)

  pub run_start : Running states₀ nothing_found 1
  unfolding or_later
  run_start = record {
    up_to = omega arith;
    same = λ s g d h.
        let whole : suc (size core) - 1 ≡ size core = omega arith in
        ap₂ (λ (e : Ending) (k : ℕ). or_later e (given s d k 1 (world_of n states₀))) (nothing_found_law d) whole;
  }

  pub run_turn : (states next : List Exchange) (found noted : List (Option First)) (r : ℕ) → Running states found r → r ≤ size core
      → ((s : Scenario) → Says n core c s → world_of n next ≡ apply_all (world_of n states) (round_calls s r (world_of n states)))
      → ((d : ℕ) → is_drive n d ≡ true → found_of noted d ≡ or_later (found_of found d) (ending_on (state_at next d).decision r undecided))
      → Running next noted (r + 1)
  unfolding decision_of
  run_turn states next found noted r g h made notes = subst (Running next noted) (sym (add-one r)) (record { up_to = omega (arith, h); same = same })
    where
      same : (s : Scenario) → Says n core c s → (d : ℕ) → is_drive n d ≡ true
          → or_later (found_of noted d) (given s d (suc (size core) - suc r) (suc r) (world_of n next)) ≡ given s d (size core) 1 (world_of n states₀)
      same s t d i =
          let k = suc (size core) - suc r in
          let more : suc k ≡ suc (size core) - r = omega (arith, h) in
          ap (λ (e : Ending). or_later e (given s d k (suc r) (world_of n next)))
          (notes d i ∙ ap (λ (x : Decision). or_later (found_of found d) (ending_on x r undecided)) (sym (ap decision_of (world_at n next d i))))
          ∙ (given_step s d k r (world_of n states) (world_of n next) (found_of found d) (made s t)
          ∙ (ap (λ (j : ℕ). or_later (found_of found d) (given s d j r (world_of n states))) more ∙ g.same s t d i))

  pub run_end : (states : List Exchange) (found : List (Option First)) (r : ℕ) → Running states found r → size core < r
      → (s : Scenario) → Says n core c s → (d : ℕ) → is_drive n d ≡ true → found_of found d ≡ given s d (size core) 1 (world_of n states₀)
  unfolding first_decision rounds_from
  run_end states found r g h s t d i =
      let none : 0 ≡ suc (size core) - r = omega (arith, h) in
      sym (or_none (found_of found d))
      ∙ (ap (λ (k : ℕ). or_later (found_of found d) (given s d k r (world_of n states))) none ∙ g.same s t d i)

  -- a drive that has decided ends as it was found
  pub run_decided : (states : List Exchange) (found : List (Option First)) (r : ℕ) → Running states found r
      → (s : Scenario) → Says n core c s → (d : ℕ) → is_drive n d ≡ true → (first_of found d ≡ None → ⊥) → found_of found d ≡ given s d (size core) 1 (world_of n states₀)
  unfolding found_of
  run_decided states found r g s t d i some = sym (or_decided _ _ some) ∙ g.same s t d i

-- all rounds from the opened world are the canonical ones
pub all_given : (core : ℕ) (s : Scenario) (d : ℕ) → core_of s ≡ core → (w : World) → w ≡ apply_all nothing_open (opening_calls s)
    → given s d (size core) 1 w ≡ canonical_ending s d
unfolding canonical_rounds
all_given core s d e w f = ap₂ (λ (k : ℕ) (v : World). given s d (size k) 1 v) (sym e) f
