-- The opening part of a run: every drive of the frame is opened, and is then in the state in which the abstract rounds
-- begin.
use mathlib.Core.Path.{◌≡◌, refl, sym, ap, ◌∙◌}
use mathlib.Core.Bool.{Bool, true, false, ◌&&◌, ◌||◌, cond}
use mathlib.Core.List.{List, [], ◌∷◌}
use Prim.Native.Nat.{ℕ, ◌-◌, ◌≤◌}
use lib.Dec.{eqb}
use lib.ListN.{set, replicate}
use borrow.Author.Tests.{eqb-true}
use Rattle.drive_sets.specs.Bools.Laws.{clash, by_test, and_left, and_right, and_fails_left, and_fails_right, or_second}
use Rattle.drive_sets.specs.Lists.Laws.{all_elem}
use Rattle.drive_sets.specs.Lists.{range}
use Rattle.drive_sets.specs.Masks.{has, single}
use Rattle.drive_sets.specs.Masks.Tests.{set_of, set_of_none, set_of_single}
use Rattle.drive_sets.specs.Refusals.{yields}
use Rattle.survivor_tables.specs.Order.{normal}
use Rattle.drive_states.specs.declared.Decision.TheVariants.{Undecided}
use Rattle.drive_states.specs.State.{pattern}
use Rattle.drive_sets.specs.Counts.Laws.{is_drive_range}
use Rattle.agreement.specs.Calls.{initial, opening, decision_on}
use Rattle.agreement.proofs.CallLaws.{opening_accepted, opening_same_table}
use Rattle.sync_crash.specs.Rounds.{InFrame, start, after}
use Rattle.runs.specs.World.{Call, drive_of, opened, World, nothing_open, after_call, decision_of}
use Rattle.agreement.specs.Document01.{document01, apply, apply_all, refused_in, opening_part}
use Rattle.runs.specs.World as worlds
use Rattle.runs.specs.World.Laws.{put_same, apply_other, refused_keeps}
use Rattle.runs.specs.Scenario.{Scenario, core_of, frame}
use Rattle.runs.specs.Runs.{due_opening}
use Rattle.runs.specs.Runs as any_runs
use Rattle.runs.specs.Runs.Laws.{Opens, due_opens, done_after}
use Rattle.agreement.specs.Instance.{instance_of}
use Rattle.runs.specs.Statement.{Valid}
use Rattle.agreement.proofs.Instances.{lawful, bounded, core_mask}
use Rattle.agreement.proofs.States.{numbers_of, known_from, announced_from, state_of}
use Rattle.agreement.proofs.States.Numbers.{store_one, numbers_none}
use Rattle.agreement.proofs.States.Announcements.{none_announced}
use Rattle.agreement.proofs.States.KnownSets.{known_none}
use Rattle.agreement.proofs.States.Rules.{drive_64}
use Rattle.agreement.proofs.Refinement.{Begins}

module _ {s : Scenario} (ok : Valid s) where
  -- ---- the state of an opened drive

  module _ (e : ℕ) (f : InFrame (instance_of s) e) where
    bounds : (1 ≤ e) × (e ≤ 64)
    bounds = drive_64 (lawful ok) (bounded ok) e f

    -- a core drive knows its own number and a listener knows none
    known_mask : (b : Bool) → cond b (single e) 0 ≡ set_of (λ x. b && eqb x e)
    known_mask true = set_of_single e bounds.0 bounds.1
    known_mask false = sym (set_of_none (λ x. false) (λ x. refl))

    known_numbers : (b : Bool) → cond b (set (replicate 64 (pattern 0)) (e - 1) (pattern (s.proposal e))) (replicate 64 (pattern 0)) ≡ numbers_of s.proposal (λ x. b && eqb x e)
    known_numbers true = rw (← numbers_none s.proposal) (store_one s.proposal (λ x. false) e bounds.0 bounds.1)
    known_numbers false = sym (numbers_none s.proposal)

    known_start : known_from (instance_of s) 0 e (λ d. false) ≡ (λ x. has e (core_of s) && eqb x e)
    unfolding after start
    known_start = known_none (lawful ok) 0 e

    initial_state : initial s.n (core_of s) e (s.proposal e) ≡ state_of (instance_of s) 0 e (λ d. false)
    unfolding initial state_of after start decision_on announced_from
    initial_state = λ j. record {
      n = s.n;
      own = record { 0 = e };
      core = sym (core_mask ok) j;
      round = record { 0 = 1 };
      before = sym (core_mask ok) j;
      heard = sym (set_of_none (λ d. false) (λ d. refl)) j;
      known = (known_mask (has e (core_of s)) ∙ ap set_of (sym known_start)) j;
      start = known_mask (has e (core_of s)) j;
      numbers = (known_numbers (has e (core_of s)) ∙ ap (numbers_of s.proposal) (sym known_start)) j;
      announced = sym (none_announced (range 1 s.n)) j;
      decision = Undecided;
      halted = false;
    }

    opening_state : opening s.n s.sets e (s.proposal e) ≡ yields (state_of (instance_of s) 0 e (λ d. false))
    unfolding core_of
    opening_state =
        opening_accepted s.n s.sets (normal s.sets) e (s.proposal e) ok.accepted (is_drive_range s.n e ∙ f) ∙ ap yields initial_state

  -- ---- the part

  -- the drives opened so far are in that state
  abbrev AreOpen : (ℕ → Bool) → World → Type 0
  AreOpen done w = (d : ℕ) → InFrame (instance_of s) d → done d ≡ true → w d ≡ opened (state_of (instance_of s) 0 d (λ x. false))

  -- a due opening is the one that the scenario asks for, whatever the listing
  due_opened : (done : ℕ → Bool) (w : World) (c : Call) (d : ℕ) → InFrame (instance_of s) d → Opens s done c d → apply w c d ≡ opened (state_of (instance_of s) 0 d (λ x. false))
  unfolding worlds.apply after_call
  due_opened done w c d f o =
      rw o.is (put_same w d _ ∙ rw (opening_same_table s.n o.listing s.sets d (s.proposal d) (o.table ∙ sym ok.accepted), opening_state d f) refl)

  call_opens : (done : ℕ → Bool) (w : World) (c : Call) → AreOpen done w → (due_opening s done c || refused_in w c) ≡ true → AreOpen (done_after s done c) (apply w c)
  call_opens done w c g t y f h =
      by_test (due_opening s done c)
      (λ i. by_test (eqb y (drive_of c))
      (λ p. due_opened done w c y f (rw (eqb-true y (drive_of c) p) (due_opens s done c i)))
      (λ p. apply_other document01 w c y p ∙ g y f (or_second _ _ (and_fails_right (due_opening s done c) p) ∙ h)))
      (λ i. refused_keeps document01 w c (or_second _ _ i ∙ t) y ∙ g y f (or_second _ _ (and_fails_left _ i) ∙ h))

  all_open : (done : ℕ → Bool) (w : World) (calls : List Call) → AreOpen done w → opening_part s done w calls ≡ true → (d : ℕ) → InFrame (instance_of s) d
      → apply_all w calls d ≡ opened (state_of (instance_of s) 0 d (λ x. false))
  unfolding any_runs.opening_part worlds.apply_all frame
  all_open done w [] g t d f = g d f (all_elem done (frame s) d t f)
  all_open done w (c ∷ calls) g t d f =
      let now = due_opening s done c || refused_in w c in
      all_open (done_after s done c) (apply w c) calls (call_opens done w c g (and_left now _ t)) (and_right now _ t) d f

  pub opening_begins : (calls : List Call) → opening_part s (λ d. false) nothing_open calls ≡ true → Begins s 0 (apply_all nothing_open calls)
  unfolding decision_of state_of after start
  opening_begins calls t =
      let open_now = all_open (λ d. false) nothing_open calls (λ d f h. absurd (clash h refl)) t in
      record {
        going = λ h e a. open_now e a.in_frame;
        idle = λ e f u h. absurd (clash h refl);
        decided = λ e f u. ap decision_of (open_now e f);
      }
