-- What the simulated exchange gives: how each drive ends, the core and f, from the first decisions that the rounds
-- found.
use Rattle.std.specs.Prelude.{Option, None, Some, is_none}
use Rattle.std.specs.Option.{is_some}
use mathlib.Core.Path.{◌≡◌, refl, sym, ap, ap₂, ◌∙◌, subst}
use mathlib.Core.Bool.{Bool, true, false, not, ◌&&◌, cond}
use mathlib.Core.List.{List, [], ◌∷◌, map}
use Prim.Native.Nat.{ℕ, ◌-◌, ◌^◌, ◌<◌}
use native.Mathlib.Omega.{arith}
use lib.ListN.{length, get_or, take, get_or-map}
use lib.Seq.{get_or-take}
use lib.Dec.{eqb}
use borrow.Author.Tests.{eqb-true, eqb-false, eq-eqb, ne_eqb, not-true, not-false}
use Rattle.drive_sets.specs.Bools.Laws.{by_test, cond_true, cond_false}
use Rattle.drive_sets.specs.Lists.{range, elem}
use Rattle.drive_sets.specs.Lists.Places.{map_same}
use Rattle.drive_sets.specs.Lists.Laws.{elem_none, any_true, any_false, filter_same}
use Rattle.drive_sets.specs.Lists.Takes.{filter_filter}
use Rattle.drive_sets.specs.Masks.{has, common, size, drives}
use Rattle.drive_sets.specs.Masks.Laws.{has_common}
use Rattle.drive_sets.specs.Masks.Sizes.{elem_drives, length_drives}
use Rattle.drive_sets.specs.declared.Pattern.{Pattern}
use Rattle.drive_sets.specs.declared.Refusal.TheVariants.{NoneUntouched}
use Rattle.drive_sets.specs.Refusals.{Outcome, refused, yields, number, and_then}
use Rattle.drive_sets.specs.Refusals.Laws.{refused_no_result}
use Rattle.survivor_tables.specs.Hitting.{first_missed}
use Rattle.survivor_tables.specs.Order.{normal}
use Rattle.survivor_tables.specs.Tables.{chosen, normal_table, chosen_core, Accepted}
use Rattle.survivor_tables.proofs.Tables.Laws.{accepted_table, core_given}
use Rattle.drive_sets.specs.Counts.{is_drive}
use Rattle.drive_sets.specs.Limits.{pattern_limit}
use Rattle.drive_sets.specs.Counts.Laws.{drive_bounds, is_drive_range}
use Rattle.runs.specs.Scenario.{Crash, stays, crashes, Scenario, frame, core_of, has_crash}
use Rattle.runs.specs.CrashRecords.{CrashRecord, crashed, crash_in, scenario}
use Rattle.runs.specs.Statement.{Valid, Up, core_crashes}
use Rattle.agreement.specs.RoundEndings.{Ending, stopped, ending_of, endings}
use Rattle.agreement.specs.Canonical.{canonical_ending, CanonicalGives}
use Rattle.agreement.proofs.Refinement.Endings.{canonical_gives}
use Rattle.drive_crashes.specs.declared.Crashes.{Crashes}
use Rattle.drive_crashes.specs.Crashes as by_drive
use Rattle.drive_crashes.specs.Crashes.{round_at}
use Rattle.drive_states.specs.State.{values, pattern, number_in}
use Rattle.simulation.specs.Simulation.{checked_crashes, Simulated, simulated_of, unless_touched, simulated}
use Rattle.simulation.specs.Simulation.Laws.{checked_valid}
use Rattle.simulated_rounds.specs.Rounds.{crash_at, Says}
use Rattle.simulated_decisions.specs.Arguments.{Told}
use Rattle.simulation.proofs.CrashChecks.{checked_then}

-- ---- the result of a scenario

module _ (n core : ℕ) (c : Crashes) (s : Scenario) (g : Says n core c s) where
  -- a drive with a CR, and one with none
  crashes_at : (d : ℕ) → has d c.crashed ≡ true → s.crash d ≡ crashes (round_at c.rounds d) (get_or c.sends (d - 1) 0)
  unfolding crash_at
  crashes_at d t = g.crash_is d ∙ cond_true _ _ t

  stays_at : (d : ℕ) → has d c.crashed ≡ false → s.crash d ≡ stays
  unfolding crash_at
  stays_at d t = g.crash_is d ∙ cond_false _ _ t

  has_crash_law : (d : ℕ) → has_crash (s.crash d) ≡ has d c.crashed
  unfolding has_crash
  has_crash_law d = by_test (has d c.crashed) (λ t. ap has_crash (crashes_at d t) ∙ sym t) (λ t. ap has_crash (stays_at d t) ∙ sym t)

  -- f
  pub stops_counted : size (common core c.crashed) ≡ core_crashes s
  unfolding core_crashes drives
  stops_counted =
      sym (length_drives (common core c.crashed))
      ∙ ap length (filter_same (λ d. has d (common core c.crashed)) (λ d. has d (core_of s) && has_crash (s.crash d)) (range 1 64)
      (λ d i. has_common d core c.crashed ∙ ap₂ (λ (a b : Bool). a && b) (ap (has d) (sym g.core_is)) (sym (has_crash_law d)))
      ∙ sym (filter_filter (λ d. has_crash (s.crash d)) (λ d. has d (core_of s)) (range 1 64)))

  -- the first decisions of the drives that have no CR, from the canonical order of calls, where the scenario is valid
  pub endings_found : Valid s → (found : ℕ → Ending) → ((d : ℕ) → is_drive n d ≡ true → found d ≡ canonical_ending s d)
      → map (λ d. cond (has d c.crashed) stopped (found d)) (range 1 n) ≡ endings s
  unfolding endings frame ending_of CanonicalGives
  endings_found ok found same =
      map_same (λ d. cond (has d c.crashed) stopped (found d)) (λ d. ending_of s (s.crash d) d) (range 1 n)
      (λ d i. let inside = is_drive_range n d ∙ i in
      by_test (has d c.crashed)
      (λ t. cond_true _ _ t ∙ sym (ap (λ (q : Crash). ending_of s q d) (crashes_at d t)))
      (λ t. cond_false _ _ t ∙ (same d inside ∙ canonical_gives s ok d (up d inside t))))
      ∙ ap (λ (m : ℕ). map (λ d. ending_of s (s.crash d) d) (range 1 m)) (sym g.frame_is)
    where
      up : (d : ℕ) → is_drive n d ≡ true → has d c.crashed ≡ false → Up s d
      up d i t = record { in_frame = ap (λ (m : ℕ). is_drive m d) g.frame_is ∙ i; stay = stays_at d t }

  pub result_is : Valid s → (found : ℕ → Ending) → ((d : ℕ) → is_drive n d ≡ true → found d ≡ canonical_ending s d)
      → (stops : ℕ) → stops ≡ size (common core c.crashed)
      → ◌≡◌ {A = Simulated} (record { endings = map (λ d. cond (has d c.crashed) stopped (found d)) (range 1 n); core = core; stops = stops }) (simulated_of s)
  result_is ok found same stops e =
      ap₂ (λ (es : List Ending) (k : ℕ). record { endings = es; core = core; stops = k }) (endings_found ok found same) (e ∙ stops_counted)
      ∙ ap (λ (k : ℕ). record { endings = endings s; core = k; stops = core_crashes s }) (sym g.core_is)

-- ---- the scenario of a call

-- the CR of a drive among the records is the one at its place
crash_listed : (c : Crashes) (l : List ℕ) (d : ℕ)
    → crash_in (map (by_drive.crash_of_drive c) l) d ≡ cond (elem d l) (crashes (round_at c.rounds d) (get_or c.sends (d - 1) 0)) stays
unfolding crash_in elem by_drive.crash_of_drive
crash_listed c [] d = rw (elem_none d)
crash_listed c (x ∷ l) d =
    by_test (eqb x d)
    (λ t. rw (t, any_true (eqb d) x l (eq-eqb d x (sym (eqb-true x d t))), eqb-true x d t))
    (λ t. rw (t, any_false (eqb d) x l (ne_eqb d x (λ e. eqb-false x d t (sym e)))) (crash_listed c l d))

module _ (n : ℕ) (sets : List ℕ) (numbers : List Pattern) (c : Crashes) (core : ℕ) (word : c.crashed < 2 ^ 64) (e : chosen_core n sets ≡ yields core) where
  -- the table is accepted, and this is its chosen core
  given : Accepted n sets × (chosen (normal sets) ≡ core)
  given = core_given n sets e

  pub told : ((i : ℕ) → (get_or numbers i (pattern 0)).0 < pattern_limit)
      → checked_crashes n core 0 (by_drive.crashes_in c) (yields (by_drive.crashes_in c)) ≡ yields (by_drive.crashes_in c)
      → Told n core numbers c (scenario n sets (take n (values numbers)) (by_drive.crashes_in c))
  unfolding scenario core_of crash_at number_in by_drive.crashes_in
  told small checks = record {
    says = record { frame_is = refl; core_is = given.1; crash_is = crash_is };
    valid = checked_valid n sets (take n (values numbers)) (by_drive.crashes_in c) (accepted_table n sets given.0)
        (λ d h. subst (λ (v : ℕ). v < pattern_limit) (sym (proposed d h)) (small (d - 1)))
        (ap (λ (k : ℕ). checked_crashes n k 0 (by_drive.crashes_in c) (yields (by_drive.crashes_in c))) given.1 ∙ checks);
    proposal_is = proposed;
  }
    where
      proposed : (d : ℕ) → is_drive n d ≡ true → get_or (take n (values numbers)) (d - 1) 0 ≡ number_in numbers d
      proposed d h =
          let b = drive_bounds n d h in
          get_or-take n (values numbers) (d - 1) 0 (omega (arith, b.0, b.1)) ∙ get_or-map (λ (v : Pattern). v.0) numbers (d - 1) (pattern 0)

      crash_is : (d : ℕ) → crash_in (by_drive.crashes_in c) d ≡ crash_at c d
      crash_is d =
          crash_listed c (drives c.crashed) d
          ∙ ap (λ (b : Bool). cond b (crashes (round_at c.rounds d) (get_or c.sends (d - 1) 0)) stays) (elem_drives d c.crashed word)

  -- ---- with the chosen core

  module _ (nums : List ℕ) (crs : List CrashRecord) where
    with_core : checked_crashes n core 0 crs (unless_touched n sets nums crs) ≡ simulated n sets nums crs
    unfolding simulated
    with_core =
        ap (λ (k : ℕ). checked_crashes n k 0 crs (unless_touched n sets nums crs)) (sym given.1)
        ∙ ap (λ (o : Outcome (List ℕ)). and_then o (λ table. checked_crashes n (chosen table) 0 crs (unless_touched n sets nums crs))) (sym (accepted_table n sets given.0))

    -- a crash is refused, or all pass
    pub crash_refused : (q : ℕ) → checked_crashes n core 0 crs (yields crs) ≡ refused q → refused q ≡ simulated n sets nums crs
    crash_refused q h = sym (checked_then n core 0 crs crs _ ∙ ap (λ (o : Outcome (List CrashRecord)). and_then o (λ passed. unless_touched n sets nums crs)) h) ∙ with_core

    pub crash_passed : checked_crashes n core 0 crs (yields crs) ≡ yields crs → unless_touched n sets nums crs ≡ simulated n sets nums crs
    crash_passed h = sym (checked_then n core 0 crs crs _ ∙ ap (λ (o : Outcome (List CrashRecord)). and_then o (λ passed. unless_touched n sets nums crs)) h) ∙ with_core

-- 11, or the result
none_law : (o : Option ℕ) (b : Bool) → is_some o ≡ not b → is_none o ≡ b
none_law None b e = sym (not-false b (sym e))
none_law (Some k) b e = sym (not-true b (sym e))

module _ (n : ℕ) (sets nums : List ℕ) (crs : List CrashRecord) {o : Option ℕ} {b : Bool} (e : o ≡ first_missed sets (crashed crs)) (f : is_some o ≡ not b) where
  none_missed : is_none (first_missed sets (crashed crs)) ≡ b
  none_missed = ap is_none (sym e) ∙ none_law o b f

  pub all_touched : b ≡ true → refused (number NoneUntouched) ≡ unless_touched n sets nums crs
  all_touched t = sym (cond_true _ _ (none_missed ∙ t))

  pub some_untouched : b ≡ false → yields (simulated_of (scenario n sets nums crs)) ≡ unless_touched n sets nums crs
  some_untouched t = sym (cond_false _ _ (none_missed ∙ t))

-- a refused table
pub table_refused : (n : ℕ) (sets nums : List ℕ) (crs : List CrashRecord) (q : ℕ) → chosen_core n sets ≡ refused q → refused q ≡ simulated n sets nums crs
unfolding simulated chosen_core
table_refused n sets nums crs q e = go (normal_table n sets) e
  where
    go : (o : Outcome (List ℕ)) → and_then o (λ t. yields (chosen t)) ≡ refused q
        → refused q ≡ and_then o (λ table. checked_crashes n (chosen table) 0 crs (unless_touched n sets nums crs))
    go (refused r) h = cc
    go (yields t) h = absurd (refused_no_result (sym h))
