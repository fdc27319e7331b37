-- Where the simulated exchange is not refused, its scenario is valid and some survivor set is untouched: so it reaches
-- agreement, and every run of the scenario gives what it gives.
use Rattle.std.specs.Prelude.{◌≡◌, refl, false, not, ℕ, ◌-◌, ◌≤◌, ◌<◌, eqb, leb, ltb, get_or, is_none}
use Rattle.std.proofs.Math.Path.{sym, ap, subst}
use Rattle.std.proofs.Common.{◌∙◌, ⊎_elim, arith}
use Rattle.std.proofs.Math.Bool.{true}
use mathlib.Core.List.{List, [], ◌∷◌}
use borrow.Author.Tests.{ltb-false, eqb-true, leb-true, not-false}
use Rattle.drive_sets.specs.declared.Refusal.TheVariants.{DriveNumber, CrashRound, CrashSends, NoneUntouched}
use Rattle.drive_sets.specs.Bools.Laws.{clash, by_test, false_of, and_left, and_right, cond_true, cond_false}
use Rattle.drive_sets.specs.Lists.{elem}
use Rattle.drive_sets.specs.Lists.Laws.{elem_head, elem_tail, elem_cases, elem_none}
use Rattle.drive_sets.specs.Masks.{size}
use Rattle.drive_sets.specs.Masks.Laws.{meets_not}
use Rattle.drive_sets.specs.Masks.Sizes.{has_of_drives}
use Rattle.drive_sets.specs.Refusals.{Outcome, yields}
use Rattle.drive_sets.specs.Refusals.Laws.{passed, first_result, same_result}
use Rattle.survivor_tables.specs.Hitting.{first_missed}
use Rattle.survivor_tables.specs.Hitting.Laws.{some_missed}
use Rattle.survivor_tables.specs.Order.{normal}
use Rattle.survivor_tables.specs.Tables.{chosen, normal_table, Accepted}
use Rattle.survivor_tables.proofs.Tables.Laws.{table_accepted}
use Rattle.drive_sets.specs.Counts.{is_drive, is_round}
use Rattle.drive_sets.specs.Limits.{pattern_limit}
use Rattle.drive_sets.specs.Counts.Laws.{drive_bounds}
use Rattle.runs.specs.Scenario.{stays, crashes, Scenario, core_of}
use Rattle.runs.specs.Scenario.Laws.{stays_crashes}
use Rattle.runs.specs.CrashRecords.{CrashRecord, drives_of, crashed, is_next, most_sends, checked_crash, crash_in, scenario}
use Rattle.runs.specs.Statement.{Passes, Valid, Untouched}
use Rattle.agreement.specs.RoundEndings.{EndsAgreed, SimulatedAgreement}
use Rattle.agreement.proofs.SimulatedRuns.{simulated_agreement}
use Rattle.simulation.specs.Simulation.{checked_crashes, Simulated, simulated_of, simulated}

-- ---- what the checks say of the records

record Checked (n core : ℕ) (c : CrashRecord) : Type 0 where
  drive : is_drive n c.drive ≡ true
  round : is_round core c.round ≡ true
  sends : c.sends ≤ most_sends n core c.drive

abbrev AllChecked : ℕ → ℕ → List CrashRecord → Type 0
AllChecked n core [] = Unit {0}
AllChecked n core (c ∷ cs) = Checked n core c × AllChecked n core cs

module _ {A : Type 0} (n core : ℕ) (next : Outcome A) {a : A} where
  all_checked : (last : ℕ) (crs : List CrashRecord) → checked_crashes n core last crs next ≡ yields a → AllChecked n core crs × (next ≡ yields a)
  unfolding checked_crashes checked_crash is_next
  all_checked last [] e = (tt, e)
  all_checked last (c ∷ cs) e =
      let first = first_result (checked_crash n core last c) _ e in
      let drive = passed (not (is_next n last c.drive)) DriveNumber _ first.1 in
      let round = passed (not (is_round core c.round)) CrashRound _ drive.1 in
      let sends = passed (ltb (most_sends n core c.drive) c.sends) CrashSends _ round.1 in
      let rest = all_checked c.drive cs first.2 in (
        (
          record {
            drive = and_left (is_drive n c.drive) _ (not-false (is_next n last c.drive) drive.0);
            round = not-false (is_round core c.round) round.0;
            sends = ltb-false (most_sends n core c.drive) c.sends sends.0;
          },
          rest.0,
        ),
        rest.1,
      )

-- the CR of a drive is one of the records
found : (n core : ℕ) (crs : List CrashRecord) → AllChecked n core crs → (d round sends : ℕ) → crash_in crs d ≡ crashes round sends
    → Checked n core (record { drive = d; round = round; sends = sends })
unfolding crash_in
found n core [] all d round sends e = absurd (stays_crashes e)
found n core (c ∷ cs) all d round sends e =
    by_test (eqb c.drive d)
    (λ t. here (eqb-true c.drive d t) (sym (cond_true _ _ t) ∙ e))
    (λ t. found n core cs all.1 d round sends (sym (cond_false _ _ t) ∙ e))
  where
    here : c.drive ≡ d → crashes c.round c.sends ≡ crashes round sends → Checked n core (record { drive = d; round = round; sends = sends })
    here t f =
        let same_round : c.round ≡ round = cc in
        let same_sends : c.sends ≡ sends = cc in
        record {
          drive = subst (λ (x : ℕ). is_drive n x ≡ true) t all.0.drive;
          round = subst (λ (x : ℕ). is_round core x ≡ true) same_round all.0.round;
          sends = subst (λ (x : ℕ). x ≤ most_sends n core d) same_sends (subst (λ (x : ℕ). c.sends ≤ most_sends n core x) t all.0.sends);
        }

-- a drive that no record names has no CR
not_named : (crs : List CrashRecord) (d : ℕ) → elem d (drives_of crs) ≡ false → crash_in crs d ≡ stays
unfolding crash_in
not_named [] d h = refl
not_named (c ∷ cs) d h =
    by_test (eqb c.drive d)
    (λ t. absurd (clash (subst (λ (x : ℕ). elem x (c.drive ∷ drives_of cs) ≡ true) (eqb-true c.drive d t) (elem_head c.drive (drives_of cs))) h))
    (λ t. cond_false _ _ t ∙ not_named cs d (false_of (elem d (drives_of cs)) (λ q. clash (elem_tail d c.drive (drives_of cs) q) h)))

named_bounds : (n core : ℕ) (crs : List CrashRecord) → AllChecked n core crs → (d : ℕ) → elem d (drives_of crs) ≡ true → (1 ≤ d) × (d ≤ n)
named_bounds n core [] all d h = absurd (clash h (elem_none d))
named_bounds n core (c ∷ cs) all d h =
    ⊎_elim
    (λ t. drive_bounds n d (subst (λ (x : ℕ). is_drive n x ≡ true) (sym t) all.0.drive))
    (λ t. named_bounds n core cs all.1 d t)
    (elem_cases d c.drive (drives_of cs) h)

-- ---- the scenario of an accepted table and records that pass

module _ (n : ℕ) (sets numbers : List ℕ) (crs : List CrashRecord)
    (accepted : normal_table n sets ≡ yields (normal sets)) (patterns : (d : ℕ) → is_drive n d ≡ true → get_or numbers (d - 1) 0 < pattern_limit) where
  records_valid : AllChecked n (chosen (normal sets)) crs → Valid (scenario n sets numbers crs)
  unfolding scenario core_of is_round most_sends
  records_valid records = record { accepted = accepted; patterns = patterns; passes = passes }
    where
      passes : (d round sends : ℕ) → crash_in crs d ≡ crashes round sends → Passes (scenario n sets numbers crs) d round sends
      passes d round sends h =
          let c = found n (chosen (normal sets)) crs records d round sends h in
          record {
            in_frame = c.drive;
            from = leb-true 1 round (and_left (leb 1 round) _ c.round);
            up_to = leb-true round (size (chosen (normal sets))) (and_right (leb 1 round) _ c.round);
            of_core = λ t. subst (λ (x : ℕ). sends ≤ x) (cond_true _ _ t) c.sends;
            of_listener = λ t. omega (arith, subst (λ (x : ℕ). sends ≤ x) (cond_false _ _ t) c.sends);
          }

  pub checked_valid : checked_crashes n (chosen (normal sets)) 0 crs (yields crs) ≡ yields crs → Valid (scenario n sets numbers crs)
  checked_valid e = records_valid (all_checked n (chosen (normal sets)) (yields crs) 0 crs e).0

-- ---- the call

module _ (n : ℕ) (sets numbers : List ℕ) (crs : List CrashRecord) {r : Simulated} (e : simulated n sets numbers crs ≡ yields r) where
  abbrev given : Scenario
  given = scenario n sets numbers crs

  record Accept : Type 0 where
    accepted : normal_table n sets ≡ yields (normal sets)
    table : Accepted n sets
    records : AllChecked n (chosen (normal sets)) crs
    untouched : is_none (first_missed sets (crashed crs)) ≡ false
    gives : r ≡ simulated_of given

  accept : Accept
  unfolding simulated
  accept =
      let first = first_result (normal_table n sets) _ e in
      let table = table_accepted n sets first.0 first.1 in
      let checks = all_checked n (chosen first.0) _ 0 crs first.2 in
      let left = passed (is_none (first_missed sets (crashed crs))) NoneUntouched _ checks.1 in
      record {
        accepted = first.1 ∙ ap yields table.1;
        table = table.0;
        records = subst (λ (t : List ℕ). AllChecked n (chosen t) crs) table.1 checks.0;
        untouched = left.0;
        gives = sym (same_result left.1);
      }

  pub simulated_valid : ((d : ℕ) → is_drive n d ≡ true → get_or numbers (d - 1) 0 < pattern_limit) → Valid given
  simulated_valid patterns = records_valid n sets numbers crs accept.accepted patterns accept.records

  pub simulated_untouched : Untouched given
  unfolding scenario crashed
  simulated_untouched =
      let s = some_missed sets (crashed crs) accept.untouched in
      record {
        set = s.0;
        listed = s.1;
        stay = λ d h. not_named crs d (sym (has_of_drives d (drives_of crs) named_64) ∙ meets_not d s.0 (crashed crs) s.2 h);
      }
    where
      named_64 : (d : ℕ) → elem d (drives_of crs) ≡ true → (1 ≤ d) × (d ≤ 64)
      named_64 d h = let b = named_bounds n (chosen (normal sets)) crs accept.records d h in (b.0, omega (arith, b.1, accept.table.high))

  pub simulated_gives : r ≡ simulated_of given
  simulated_gives = accept.gives

  -- so every drive that stays up decides, all on one number, in a round up to f + 1
  pub simulated_agrees : ((d : ℕ) → is_drive n d ≡ true → get_or numbers (d - 1) 0 < pattern_limit) → EndsAgreed given
  unfolding SimulatedAgreement
  simulated_agrees patterns = simulated_agreement given (simulated_valid patterns) simulated_untouched
