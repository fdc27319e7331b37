-- A whole run follows the abstract rounds: the world before each round, and after the last, is the one that they give;
-- and a drive decides in the list just when it decides in the rounds. In the part of a round a closer's close stands in
-- the list, made in the drive's own round, and leaves it with the decision of the abstract round; and a close that
-- decides is that one.
use mathlib.Core.Path.{◌≡◌, refl, sym, ap, ◌∙◌}
use mathlib.Core.Bool.{true, false}
use mathlib.Core.List.{List, [], ◌∷◌, ◌++◌, nil≢cons}
use Prim.Native.Nat.{ℕ, zero, suc, ◌+◌, ◌≤◌, ◌<◌}
use native.Mathlib.Omega.{arith}
use lib.Dec.{ltb}
use lib.ListN.{length, take, get_or, get_or-eq_default}
use lib.Seq.{take_all}
use borrow.Author.Tests.{ltb-true, ltb-false}
use Rattle.drive_sets.specs.Bools.Laws.{clash, by_test, and_left, and_right, or_second, cond_true, cond_false}
use Rattle.drive_sets.specs.Masks.{size}
use Rattle.drive_states.specs.declared.Decision.TheVariants.{Undecided, Decided}
use Rattle.agreement.specs.Calls.{decision_on}
use Rattle.agreement.proofs.CallLaws.{undecided_none, decided_some}
use Rattle.sync_crash.specs.Rounds.{DecidesIn, decision}
use Rattle.sync_crash.proofs.Rounds.Steps.{Closer, closer_active}
use Rattle.sync_crash.proofs.Rounds.Decisions.{decider_closes}
use Rattle.runs.specs.World.{Call, closes, World, nothing_open, decision_of, round_in}
use Rattle.runs.specs.World as worlds
use Rattle.runs.specs.World.Laws.{apply_all_append, put_same, refused_keeps}
use Rattle.runs.specs.Scenario.{Scenario, core_of}
use Rattle.runs.specs.Runs.{RoundProgress, nothing_yet, joined}
use Rattle.runs.specs.Runs as any_runs
use Rattle.runs.specs.Runs.Laws.{closed_by}
use Rattle.runs.specs.Statement.{Valid, Up, part_at, calls_before, DecidesAfter}
use Rattle.agreement.specs.Document01.{document01, apply, apply_all, due, round_part, round_parts, Run}
use Rattle.agreement.specs.Instance.{instance_of}
use Rattle.agreement.proofs.Undecided.{undecided_so_far, undecided_before}
use Rattle.agreement.proofs.Instances.{lawful, bounded, core_round, correct_stays_up, up_in_frame, up_correct}
use Rattle.agreement.proofs.States.{state_of}
use Rattle.agreement.proofs.States.Closing.{next_decision}
use Rattle.agreement.proofs.Refinement.{Begins, Follows, progress_after, allowed}
use Rattle.agreement.proofs.Refinement.Opening.{opening_begins}
use Rattle.agreement.proofs.Refinement.Calls.{close_closer, not_closed, closed_state}
use Rattle.agreement.proofs.Refinement.Parts.{follows_call, follows_start, closer_closed, part_begins}

-- d is in round k + 1 and closes it as the abstract round says
record ClosesAs (s : Scenario) (k : ℕ) (w : World) (d : ℕ) : Type 0 where
  in_round_law : round_in (w d) ≡ suc k
  before : decision_of (w d) ≡ decision_on (decision (instance_of s) k d)
  after : decision_of (apply w (closes d) d) ≡ decision_on (decision (instance_of s) (suc k) d)

-- among the calls
record ClosesIn (s : Scenario) (k : ℕ) (w : World) (calls : List Call) (d : ℕ) : Type 0 where
  earlier : List Call
  later : List Call
  among : calls ≡ earlier ++ (closes d ∷ later)
  close : ClosesAs s k (apply_all w earlier) d

module _ {s : Scenario} (ok : Valid s) where
  -- ---- in the part of a round

  module _ {k : ℕ} (round : k < size (core_of s)) {w₀ : World} (begins : Begins s k w₀) where
    due_close : {b : RoundProgress} {w : World} → Follows s k w₀ b w → (d : ℕ) → due s (suc k) w₀ b w (closes d) ≡ true → ClosesAs s k w d
    unfolding worlds.apply decision_of round_in state_of
    due_close {w = w} g d t =
        let c = close_closer ok round begins g d t in
        let here = g.going d (closer_active (lawful ok) c) (not_closed ok round begins g d t) in
        record {
          in_round_law = ap round_in here;
          before = ap decision_of here;
          after = ap decision_of (put_same w d _ ∙ closed_state ok round begins g d t) ∙ next_decision (lawful ok) (bounded ok) (core_round ok round) c;
        }

    -- it is the call after which the drive counts as closed
    call_closes : (b : RoundProgress) (w : World) (c : Call) (d : ℕ) → b.closed d ≡ false → (progress_after s k w₀ b w c).closed d ≡ true
        → (c ≡ closes d) × (due s (suc k) w₀ b w c ≡ true)
    call_closes b w c d o h =
        by_test (due s (suc k) w₀ b w c)
        (λ t. (closed_by document01 s (suc k) w₀ b w c d o (sym (ap (λ (x : RoundProgress). x.closed d) (cond_true _ _ t)) ∙ h), t))
        (λ t. absurd (clash (sym (ap (λ (x : RoundProgress). x.closed d) (cond_false _ _ t)) ∙ h) o))

    close_found : (b : RoundProgress) (w : World) (calls : List Call) (d : ℕ) → Closer (instance_of s) k d → b.closed d ≡ false → Follows s k w₀ b w
        → round_part s (suc k) w₀ b w calls ≡ true → ClosesIn s k w calls d
    unfolding any_runs.round_part worlds.apply_all
    close_found b w [] d c o g t = absurd (clash (closer_closed ok round begins b t c) o)
    close_found b w (x ∷ calls) d c o g t =
        let b' = progress_after s k w₀ b w x in
        by_test (b'.closed d)
        (λ h. let is = call_closes b w x d o h in
        record { earlier = []; later = calls; among = ap (λ y. y ∷ calls) is.0; close = due_close g d (sym (ap (due s (suc k) w₀ b w) is.0) ∙ is.1) })
        (λ h. let r = close_found b' (apply w x) calls d c h (follows_call ok round begins b w x g (and_left (allowed s k w₀ b w x) _ t)) (and_right (allowed s k w₀ b w x) _ t) in
        record { earlier = x ∷ r.earlier; later = r.later; among = ap (λ l. x ∷ l) r.among; close = r.close })

    -- and a close that decides is that one
    close_decides : (b : RoundProgress) (w : World) (earlier later : List Call) (d v : ℕ) → Follows s k w₀ b w
        → round_part s (suc k) w₀ b w (earlier ++ (closes d ∷ later)) ≡ true
        → decision_of (apply_all w earlier d) ≡ Undecided → decision_of (apply (apply_all w earlier) (closes d) d) ≡ Decided (record { 0 = v })
        → DecidesIn (instance_of s) d v k
    unfolding any_runs.round_part worlds.apply_all
    close_decides b w [] later d v g t o m =
        by_test (due s (suc k) w₀ b w (closes d))
        (λ i. let c = due_close g d i in record { undecided = undecided_none _ (sym c.before ∙ o); decided = decided_some _ (sym c.after ∙ m) })
        (λ i. let same = refused_keeps document01 w (closes d) (or_second _ _ i ∙ and_left (allowed s k w₀ b w (closes d)) _ t) d in
        absurd (let no : ◌≡◌ {A = ℕ} 0 1 = cc in omega arith))
    close_decides b w (x ∷ earlier) later d v g t o m =
        close_decides (progress_after s k w₀ b w x) (apply w x) earlier later d v
        (follows_call ok round begins b w x g (and_left (allowed s k w₀ b w x) _ t)) (and_right (allowed s k w₀ b w x) _ t) o m

  -- ---- from round to round

  -- w is the world before round m + 1, of which p is the part if there is that round
  record At (m : ℕ) (w : World) (p : List Call) : Type 0 where
    begins : Begins s m w
    part : m < size (core_of s) → round_part s (suc m) w nothing_yet w p ≡ true

  rounds_at : (ps : List (List Call)) (k : ℕ) (w : World) → Begins s k w → k + length ps ≡ size (core_of s) → round_parts s (suc k) w ps ≡ true
      → (j m : ℕ) → m ≡ k + j → j ≤ length ps → At m (apply_all w (joined (take j ps))) (get_or ps j [])
  unfolding any_runs.round_parts joined worlds.apply_all
  rounds_at [] k w b h t zero m e l = let is : m ≡ k = omega arith in rw is (record { begins = b; part = λ less. absurd (omega arith) })
  rounds_at (p ∷ ps) k w b h t zero m e l =
      let is : m ≡ k = omega arith in rw is (record { begins = b; part = λ less. and_left (round_part s (suc k) w nothing_yet w p) _ t })
  rounds_at [] k w b h t (suc j) m e l = absurd (omega arith)
  rounds_at (p ∷ ps) k w b h t (suc j) m e l =
      let now = round_part s (suc k) w nothing_yet w p in
      rw (apply_all_append document01 w p (joined (take j ps)))
      (rounds_at ps (suc k) (apply_all w p) (part_begins ok (omega arith) b p (and_left now _ t)) (omega arith) (and_right now _ t) j m (omega arith) (omega arith))

  -- ---- in a run

  module _ {calls : List Call} (run : Run s calls) where
    -- the world before round k + 1
    abbrev world_before : ℕ → World
    world_before k = apply_all nothing_open (calls_before run k)

    at_round : (k : ℕ) → k ≤ size (core_of s) → At k (world_before k) (part_at run k)
    unfolding calls_before part_at
    at_round k h =
        rw (apply_all_append document01 nothing_open run.first (joined (take k run.rounds)))
        (rounds_at run.rounds 0 (apply_all nothing_open run.first) (opening_begins ok run.first run.opens_all)
        (omega (arith, run.many)) run.keeps_rounds k k (omega arith) (omega (arith, run.many)))

    all_calls : calls ≡ calls_before run (size (core_of s))
    unfolding calls_before
    all_calls =
        run.whole ∙ ap (λ (ps : List (List Call)). run.first ++ joined ps) (sym (take_all (size (core_of s)) run.rounds (omega (arith, run.many))))

    pub final_decision : {d : ℕ} → Up s d → decision_of (apply_all nothing_open calls d) ≡ decision_on (decision (instance_of s) (size (core_of s)) d)
    final_decision {d} u =
        ap (λ (l : List Call). decision_of (apply_all nothing_open l d)) all_calls
        ∙ (at_round (size (core_of s)) (omega arith)).begins.decided d (up_in_frame s u) (correct_stays_up s d (up_correct s u) (size (core_of s)))

    -- ---- decisions

    world_at : (k : ℕ) (earlier : List Call) → apply_all nothing_open (calls_before run k ++ earlier) ≡ apply_all (world_before k) earlier
    world_at k earlier = apply_all_append document01 nothing_open (calls_before run k) earlier

    closed_world : (k : ℕ) (earlier : List Call) (d : ℕ)
        → apply_all nothing_open (calls_before run k ++ earlier ++ (closes d ∷ [])) ≡ apply (apply_all (world_before k) earlier) (closes d)
    unfolding worlds.apply_all
    closed_world k earlier d =
        apply_all_append document01 nothing_open (calls_before run k ++ earlier) (closes d ∷ []) ∙ ap (λ (w : World). apply w (closes d)) (world_at k earlier)

    module _ (d v k : ℕ) where
      -- what the rounds say is so in the list
      pub rounds_decide : k < size (core_of s) → DecidesIn (instance_of s) d v k → DecidesAfter run d v k
      unfolding decision_on nothing_yet
      rounds_decide h i =
          let a = at_round k (omega arith) in
          let c = close_found h a.begins nothing_yet (world_before k) (part_at run k) d (decider_closes (lawful ok) k d i.undecided i.decided) refl
          (follows_start ok h a.begins) (a.part h) in
          record {
            earlier = c.earlier;
            later = c.later;
            among = c.among;
            in_round = ap (λ (w : World). round_in (w d)) (world_at k c.earlier) ∙ c.close.in_round_law;
            undecided = undecided_before run k c.earlier (closes d ∷ c.later) c.among d
                (ap (λ (w : World). decision_of (w d)) (world_at k c.earlier) ∙ (c.close.before ∙ ap decision_on i.undecided));
            decided = ap (λ (w : World). decision_of (w d)) (closed_world k c.earlier d) ∙ (c.close.after ∙ ap decision_on i.decided);
          }

      no_part : (earlier later : List Call) → size (core_of s) ≤ k → part_at run k ≡ earlier ++ (closes d ∷ later) → ⊥
      unfolding part_at
      no_part [] later h e = nil≢cons (sym (get_or-eq_default run.rounds [] (omega (arith, run.many))) ∙ e)
      no_part (x ∷ earlier) later h e = nil≢cons (sym (get_or-eq_default run.rounds [] (omega (arith, run.many))) ∙ e)

      -- and nothing else is
      pub decides_rounds : DecidesAfter run d v k → (k < size (core_of s)) × DecidesIn (instance_of s) d v k
      decides_rounds x =
          by_test (ltb k (size (core_of s)))
          (λ t. let h = ltb-true k (size (core_of s)) t in
          let a = at_round k (omega arith) in (
            h,
            close_decides h a.begins nothing_yet (world_before k) x.earlier x.later d v (follows_start ok h a.begins) (rw x.among at (a.part h))
                (sym (ap (λ (w : World). decision_of (w d)) (world_at k x.earlier)) ∙ undecided_so_far d (calls_before run k ++ x.earlier) x.undecided)
                (sym (ap (λ (w : World). decision_of (w d)) (closed_world k x.earlier d)) ∙ x.decided),
          ))
          (λ t. absurd (no_part x.earlier x.later (ltb-false k (size (core_of s)) t) x.among))
