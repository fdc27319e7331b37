-- Round f + 1 is needed, for every accepted table, whatever is proposed, and every f below the core's size. In the
-- scenario that shows it the core drives other than p, rising, crash one after the other, the i-th in round i before it
-- makes any send, for i from 1 to f, and nobody else crashes. So in each of the rounds 1 to f the others hear one drive
-- less than before, nobody finds the round stable and nobody announces; in round f + 1 all find it stable. Some
-- survivor set meets the core in p alone, and it is untouched.
use mathlib.Core.Path.{◌≡◌, refl, sym, ap, ◌∙◌, subst}
use mathlib.Core.Bool.{Bool, true, not, ◌&&◌}
use mathlib.Core.List.{List}
use mathlib.Core.Option.{none}
use Prim.Native.Nat.{ℕ, suc, ◌^◌, ◌≤◌, ◌<◌}
use native.Mathlib.Nat.{le_refl, lt_of_lt_of_le}
use native.Mathlib.Omega.{arith}
use lib.Dec.{eqb, ltb}
use lib.ListN.{length, take, get_or, length-take}
use lib.Pow.{pow_mono}
use borrow.Author.Tests.{ltb-true, eqb-true, eqb-false, eq-eqb, le-leb, lt-leb, not-true}
use Rattle.drive_sets.specs.Bools.Laws.{false_of, same_test, and_intro, and_left, and_right}
use Rattle.drive_sets.specs.Options.Laws.{by_option}
use Rattle.drive_sets.specs.Lists.{filter, elem, ordered}
use Rattle.drive_sets.specs.Lists.Laws.{elem_none, elem_filter, filter_same, ordered_filter}
use Rattle.drive_sets.specs.Lists.Distinct.{ordered_distinct}
use Rattle.drive_sets.specs.Lists.Takes.{elem_take, ordered_take}
use Rattle.drive_sets.specs.Lists.Places.{get_or_elem}
use Rattle.drive_sets.specs.Masks.{has, single, minus, size, drives}
use Rattle.drive_sets.specs.Masks.Laws.{has_minus, has_single, has_common, has_bounds, minus_lt}
use Rattle.drive_sets.specs.Masks.Sizes.{size_remove, elem_drives, drives_rising, length_drives, rising_unique}
use Rattle.drive_sets.specs.Refusals.{yields}
use Rattle.survivor_tables.specs.Order.{normal}
use Rattle.survivor_tables.specs.Tables.{chosen, normal_table, Accepted}
use Rattle.survivor_tables.proofs.Tables.Laws.{ChosenCore, table_accepted, chosen_core_law}
use Rattle.drive_sets.specs.Counts.{is_drive}
use Rattle.drive_sets.specs.Limits.{pattern_limit}
use Rattle.drive_sets.specs.Counts.Laws.{is_drive_law}
use Rattle.sync_crash.specs.Rounds.{StaysUp, decision, DecidesIn}
use Rattle.sync_crash.proofs.Rounds.Bound.{undecided_failures, LostUnheard, undecided_while_losing}
use Rattle.runs.specs.Scenario.{Crash, crashes, Scenario, core_of, gone_by}
use Rattle.runs.specs.Scenario.Laws.{crashes_crash}
use Rattle.runs.specs.Statement.{Valid, Untouched, Up, core_crashes, TightAt}
use Rattle.agreement.specs.Sends.{list_of, cut, reach}
use Rattle.agreement.specs.Document01.{document01}
use Rattle.agreement.specs.Instance.{instance_of, correct}
use Rattle.agreement.specs.Canonical.{canonical}
use Rattle.agreement.proofs.Instances.{lawful, some_core_drive, crashes_failures, up_correct, correct_stays_up, up_in_frame}
use Rattle.agreement.proofs.Refinement.Canonical.{canonical_run}
use Rattle.agreement.proofs.Refinement.Runs.{rounds_decide}
use Rattle.agreement.proofs.Tight.Turns.{in_turn, turn_stays, turn_crashes, turn_round, turn_at}
pub mod Turns

module _ (n : ℕ) (sets : List ℕ) (accepted : normal_table n sets ≡ yields (normal sets))
    (proposal : ℕ → ℕ) (patterns : (d : ℕ) → is_drive n d ≡ true → proposal d < pattern_limit) (f : ℕ) (few : f < size (chosen (normal sets))) where
  -- ---- the core and its drives other than p

  abbrev core : ℕ
  core = chosen (normal sets)

  table : Accepted n sets
  table = (table_accepted n sets (normal sets) accepted).0

  facts : ChosenCore n sets core
  facts = chosen_core_law n sets table

  fits : core < 2 ^ 64
  fits = lt_of_lt_of_le facts.within (pow_mono {i = n} {j = 64} table.high)

  abbrev p : ℕ
  p = (some_core_drive n sets table).0

  pc : has p core ≡ true
  pc = (some_core_drive n sets table).1

  bounds : (1 ≤ p) × (p ≤ 64)
  bounds = has_bounds 64 p core fits pc

  core_drive : (d : ℕ) → has d core ≡ true → is_drive n d ≡ true
  core_drive d h = let b = has_bounds n d core facts.within h in is_drive_law n d b.0 b.1

  abbrev others : List ℕ
  others = drives (minus core (single p))

  elem_others : (d : ℕ) → elem d others ≡ (has d core && not (eqb d p))
  elem_others d =
      elem_drives d (minus core (single p)) (minus_lt 64 core (single p) fits)
      ∙ (has_minus d core (single p) ∙ ap (λ (b : Bool). has d core && not b) (has_single d p bounds.0 bounds.1))

  -- ---- those that crash: the first f of them, in turn, from round 1 on

  abbrev crashing : List ℕ
  crashing = take f others

  length_crashing : length crashing ≡ f
  length_crashing =
      length-take f others ∙ omega (arith, length_drives (minus core (single p)), size_remove p core bounds.0 bounds.1 pc)

  crashing_rising : ordered ltb crashing ≡ true
  crashing_rising = ordered_take ltb f others (drives_rising (minus core (single p)))

  crashing_core : (d : ℕ) → elem d crashing ≡ true → has d core ≡ true
  crashing_core d h = and_left (has d core) _ (sym (elem_others d) ∙ elem_take d f others h)

  crashing_not : (d : ℕ) → elem d crashing ≡ true → d ≡ p → ⊥
  crashing_not d h = eqb-false d p (not-true _ (and_right (has d core) _ (sym (elem_others d) ∙ elem_take d f others h)))

  -- of the core they are kept
  filter_crashing : filter (λ d. elem d crashing) (drives core) ≡ crashing
  filter_crashing =
      rising_unique (filter (λ d. elem d crashing) (drives core)) crashing (ordered_filter ltb _ (drives core) (drives_rising core)) crashing_rising
      (λ d. elem_filter (λ d. elem d crashing) d (drives core)
      ∙ same_test (elem d (drives core) && elem d crashing) (elem d crashing) (and_right (elem d (drives core)) _)
      (λ h. and_intro (elem_drives d core fits ∙ crashing_core d h) h))

  -- ---- the scenario

  abbrev losing : Scenario
  losing = record { n = n; sets = sets; proposal = proposal; crash = in_turn 1 crashing }

  p_up : Up losing p
  p_up = record { in_frame = core_drive p pc; stay = turn_stays 1 crashing p (false_of (elem p crashing) (λ h. crashing_not p h refl)) }

  valid : Valid losing
  unfolding core_of
  valid = record {
    accepted = accepted;
    patterns = patterns;
    passes = λ d q m h.
        let t = turn_round 1 crashing d q m h in
        record {
          in_frame = core_drive d (crashing_core d (sym (turn_crashes 1 crashing d) ∙ crashes_crash h));
          from = t.from;
          up_to = omega (arith, t.up_to, length_crashing);
          of_core = λ i. omega (arith, t.none);
          of_listener = λ i. t.none;
        };
  }

  many : core_crashes losing ≡ f
  unfolding core_crashes core_of
  many = ap length (filter_same _ _ (drives core) (λ d h. turn_crashes 1 crashing d) ∙ filter_crashing) ∙ length_crashing

  -- the survivor set that meets the core in p alone
  untouched : Untouched losing
  untouched =
      let m = facts.alone p pc in
      record {
        set = m.0;
        listed = m.1;
        stay = λ d h. turn_stays 1 crashing d (false_of _ (λ t. crashing_not d t (eqb-true d p (sym (has_single d p bounds.0 bounds.1)
            ∙ (ap (has d) (sym m.2) ∙ (has_common d m.0 core ∙ and_intro h (crashing_core d t)))))));
      }

  -- ---- its rounds

  -- the drive that crashes in round k + 1
  lost : (k : ℕ) → k < f → LostUnheard (instance_of losing) k
  unfolding core_of gone_by reach cut
  lost k h = record {
    drive = d;
    in_core = crashing_core d (get_or_elem crashing k within);
    up = ap (λ (c : Crash). not (gone_by c k)) at ∙ ap not (lt-leb (suc k) k (le_refl (suc k)));
    gone = ap (λ (c : Crash). not (gone_by c (suc k))) at ∙ ap not (le-leb (suc k) (suc k) (le_refl (suc k)));
    unheard = λ e. ap (λ (c : Crash). elem e (cut c (suc k) (list_of losing d))) at ∙ rw (eq-eqb (suc k) (suc k) refl) (elem_none e);
  }
    where
      within : k < length crashing
      within = omega (arith, length_crashing)

      d : ℕ
      d = get_or crashing k 0

      at : losing.crash d ≡ crashes (suc k) 0
      at =
          turn_at 1 crashing k (ordered_distinct ltb (λ x h. omega (arith, ltb-true x x h)) crashing crashing_rising) within
          ∙ ap (λ (q : ℕ). crashes q 0) (omega arith)

  stays_up : StaysUp (instance_of losing) p
  stays_up = correct_stays_up losing p (up_correct losing p_up)

  decided : (v : ℕ) × DecidesIn (instance_of losing) p v f
  unfolding core_of
  decided =
      by_option (decision (instance_of losing) (suc f) p)
      (λ o. absurd (omega (
        arith,
        undecided_failures (lawful valid) p (up_in_frame losing p_up) stays_up pc stays_up (correct losing) (correct_stays_up losing) (suc f) o,
        sym (crashes_failures valid) ∙ many,
      )))
      (λ v m. (v, record { undecided = undecided_while_losing (lawful valid) f lost f (le_refl f) p (up_in_frame losing p_up) (stays_up f); decided = m }))

  -- ---- and its canonical run

  pub bound_reached : TightAt document01 n sets proposal f
  unfolding core_of
  bound_reached = record {
    scenario = losing;
    frame_is = refl;
    sets_are = refl;
    proposal_is = refl;
    valid = valid;
    untouched = untouched;
    many = many;
    calls = canonical losing;
    run = canonical_run valid;
    drive = p;
    up = p_up;
    value = decided.0;
    decides = rounds_decide valid (canonical_run valid) p decided.0 (core_crashes losing) (omega (arith, many))
        (subst (DecidesIn (instance_of losing) p decided.0) (sym many) decided.1);
  }
