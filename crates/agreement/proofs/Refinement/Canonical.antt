-- The canonical order of calls is a run: each opening is due; the worlds begin as the rounds do, so that every sender's
-- call writes its message, and every part keeps to the rounds.
use mathlib.Core.Path.{◌≡◌, refl, ap, ◌∙◌}
use mathlib.Core.Bool.{Bool, true, false, not, ◌||◌, or_assoc}
use mathlib.Core.List.{List, [], ◌∷◌, map}
use Prim.Native.Nat.{ℕ, zero, suc, ◌+◌, ◌<◌}
use native.Mathlib.Omega.{arith}
use lib.Dec.{eqb}
use lib.ListN.{length}
use borrow.Author.Tests.{eq-eqb, ne_eqb}
use Rattle.drive_sets.specs.Bools.Laws.{clash, and_intro, or_left, or_neither, or_swap, or_false}
use Rattle.drive_sets.specs.Lists.{any, elem, distinct}
use Rattle.drive_sets.specs.Lists.Laws.{elem_head, elem_tail, elem_none, all_intro}
use Rattle.drive_sets.specs.Lists.Distinct.{distinct_head, distinct_tail}
use Rattle.drive_sets.specs.Masks.{size}
use Rattle.drive_sets.specs.Refusals.{yields}
use Rattle.drive_sets.specs.Counts.Laws.{is_drive_range}
use Rattle.sync_crash.proofs.Rounds.Steps.{sender_active}
use Rattle.runs.specs.World.{Call, opens, drive_of, World, nothing_open}
use Rattle.runs.specs.Scenario.{Scenario, frame, core_of}
use Rattle.runs.specs.Scenario.Laws.{frame_distinct}
use Rattle.agreement.specs.Document01.{apply, apply_all, refused_in, opening_part, sending_of, round_parts, Run}
use Rattle.runs.specs.Runs.{due_opening, sender}
use Rattle.runs.specs.Runs as any_runs
use Rattle.runs.specs.Runs.Laws.{is_table_law}
use Rattle.agreement.specs.Instance.{instance_of}
use Rattle.agreement.specs.Canonical.{room, opening_calls, round_calls, rounds_from, canonical_rounds, canonical}
use Rattle.runs.specs.Statement.{Valid}
use Rattle.agreement.proofs.Instances.{lawful, bounded, core_round}
use Rattle.agreement.proofs.States.{InRound, message_of}
use Rattle.agreement.proofs.States.Sending.{length_message, sending_state}
use Rattle.agreement.proofs.Refinement.{Begins}
use Rattle.agreement.proofs.Refinement.Opening.{opening_begins}
use Rattle.agreement.proofs.Refinement.Participants.{true_sender}
use Rattle.agreement.proofs.Refinement.Parts.{part_begins}
use Rattle.agreement.proofs.Refinement.CanonicalRounds.{round_canonical}

-- ---- the openings

module _ {s : Scenario} (ok : Valid s) where
  abbrev opening_of : ℕ → Call
  opening_of d = opens d s.n s.sets d (s.proposal d)

  opening_due : (done : ℕ → Bool) (a : ℕ) → elem a (frame s) ≡ true → done a ≡ false → due_opening s done (opening_of a) ≡ true
  unfolding due_opening frame
  opening_due done a i n =
      and_intro (and_intro (and_intro (and_intro (and_intro (is_drive_range s.n a ∙ i) (ap not n)) (eq-eqb s.n s.n refl)) (is_table_law ok.accepted))
      (eq-eqb a a refl)) (eq-eqb (s.proposal a) (s.proposal a) refl)

  -- where those of the list are still to come
  openings_part : (rest : List ℕ) (done : ℕ → Bool) (w : World) → distinct rest ≡ true → ((x : ℕ) → elem x rest ≡ true → (elem x (frame s) ≡ true) × (done x ≡ false))
      → ((x : ℕ) → elem x (frame s) ≡ true → (done x || elem x rest) ≡ true) → opening_part s done w (map opening_of rest) ≡ true
  unfolding any_runs.opening_part drive_of elem any
  openings_part [] done w o new all_done = all_intro done (frame s) (λ x h. rw (elem_none x, or_false (done x)) at (all_done x h))
  openings_part (a ∷ rest) done w o new all_done =
      let n = new a (elem_head a rest) in
      let now = opening_due done a n.0 n.1 in
      and_intro (or_left (refused_in w (opening_of a)) now)
      (rw now (openings_part rest (λ d. eqb d a || done d) (apply w (opening_of a)) (distinct_tail a rest o)
      (λ x h. let t = new x (elem_tail x a rest h) in (t.0, or_neither (ne_eqb x a (λ e. clash (rw e at h) (distinct_head a rest o))) t.1))
      (λ x h. or_assoc (eqb x a) (done x) (elem x rest) ∙ (or_swap (eqb x a) (done x) (elem x rest) ∙ all_done x h))))

  pub openings_canonical : opening_part s (λ d. false) nothing_open (opening_calls s) ≡ true
  unfolding opening_calls
  openings_canonical = openings_part (frame s) (λ d. false) nothing_open (frame_distinct s) (λ x h. (h, refl)) (λ x h. h)

-- ---- the rounds

module _ {s : Scenario} (ok : Valid s) where
  writes_message : {k : ℕ} {w : World} → k < size (core_of s) → Begins s k w → (d : ℕ) → sender s (suc k) w d ≡ true
      → sending_of (w d) room 0 ≡ yields (message_of (instance_of s) k d)
  unfolding any_runs.sending_of
  writes_message {k} {w} round begins d t =
      let by = true_sender ok round begins d t in
      let at_start : InRound (instance_of s) k d (λ y. false) =
      record { in_frame = (lawful ok).in_frame by.in_core; round = core_round ok round; from_core = λ y h. absurd (clash h refl) } in
      ap (λ slot. sending_of slot room 0) (begins.going round d (sender_active (lawful ok) by))
      ∙ sending_state (lawful ok) (bounded ok) at_start by.in_core room 0 (omega (arith, length_message (instance_of s) k d))

  rounds_canonical : (m k : ℕ) (w : World) → k + m ≡ size (core_of s) → Begins s k w → round_parts s (suc k) w (rounds_from s m (suc k) w) ≡ true
  unfolding any_runs.round_parts rounds_from
  rounds_canonical zero k w e b = refl
  rounds_canonical (suc m) k w e b =
      let part = round_canonical s (suc k) w (message_of (instance_of s) k) (writes_message (omega arith) b) in
      and_intro part (rounds_canonical m (suc k) (apply_all w (round_calls s (suc k) w)) (omega arith) (part_begins ok (omega arith) b (round_calls s (suc k) w) part))

  length_rounds : (m r : ℕ) (w : World) → length (rounds_from s m r w) ≡ m
  unfolding rounds_from
  length_rounds zero r w = refl
  length_rounds (suc m) r w = ap suc (length_rounds m (suc r) (apply_all w (round_calls s r w)))

  pub canonical_many : length (canonical_rounds s) ≡ size (core_of s)
  unfolding canonical_rounds
  canonical_many = length_rounds (size (core_of s)) 1 (apply_all nothing_open (opening_calls s))

  pub canonical_parts : round_parts s 1 (apply_all nothing_open (opening_calls s)) (canonical_rounds s) ≡ true
  unfolding canonical_rounds
  canonical_parts =
      rounds_canonical (size (core_of s)) 0 (apply_all nothing_open (opening_calls s)) (omega arith) (opening_begins ok (opening_calls s) (openings_canonical ok))

  pub canonical_run : Run s (canonical s)
  unfolding canonical
  canonical_run = record {
    first = opening_calls s;
    rounds = canonical_rounds s;
    whole = refl;
    many = canonical_many;
    opens_all = openings_canonical ok;
    keeps_rounds = canonical_parts;
  }
