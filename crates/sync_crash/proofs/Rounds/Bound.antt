-- Round f + 1 is soon enough, and not too late (section 6 of docs/AGREEMENT.md). A drive with no CR that is undecided
-- after k rounds saw its heard-of set lose a member in each of them, and whoever it no longer hears has a CR; so k is
-- at most f. And while the core loses one drive, unheard, in each of the rounds 1 to f, heard-of sets change in each of
-- them, so that nobody finds the round stable, nobody announces and nobody decides.
use Rattle.std.specs.Prelude.{◌≡◌, Bool, true, false, ◌&&◌, length}
use Rattle.std.proofs.Math.Path.{refl}
use Rattle.std.proofs.Common.{sym, ap, ◌∙◌}
use Rattle.std.proofs.Math.Logic.{⊎_elim}
use Rattle.std.proofs.Math.Option.{none}
use Prim.Native.Nat.{ℕ, zero, suc, ◌+◌, ◌≤◌, ◌<◌}
use native.Mathlib.Omega.{arith}
use Rattle.drive_sets.specs.Bools.Laws.{clash, false_of, and_intro, and_left, and_right, beq_differ}
use Rattle.drive_sets.specs.Options.Laws.{by_option, none_some, is_none}
use Rattle.drive_sets.specs.Lists.{range, filter, all}
use Rattle.drive_sets.specs.Lists.Laws.{all_not, any_intro}
use Rattle.drive_sets.specs.Lists.Counts.{length_filter_le, length_filter_lt, length_filter_split}
use Rattle.sync_crash.specs.Rounds.{Instance, InFrame, Lawful, start, announced, heard, unchanged, stable, after, before, decision, halted, StaysUp, failures}
use Rattle.sync_crash.proofs.Rounds.Steps.{Closer, before_now, awake_now, undecided_before, undecided_awake, heard_cases}
use Rattle.sync_crash.proofs.Rounds.Decisions.{undecided_other, decides_announced, reached_decides, how_decided}
use Rattle.sync_crash.proofs.Rounds.HeardSets.{closer_reaches, closer_heard, heard_was_heard}
use Rattle.sync_crash.proofs.Rounds.StableRounds.{stable_hears, stable_decides}
use Rattle.sync_crash.proofs.Rounds.Invariant.{core_sends}

module _ {S : Instance} (L : Lawful S) where
  open S use {n, core}
  open L use {in_frame}

  module _ (e : ℕ) (f : InFrame S e) (up : StaysUp S e) where
    undecided_closes : (k : ℕ) → decision S k e ≡ none → Closer S k e
    undecided_closes k o = record { in_frame = f; awake = undecided_awake L k e o; up = up (suc k) }

    module _ {q : ℕ} (i : core q ≡ true) (stays : StaysUp S q) where
      -- a core drive that stays up goes on while e is undecided: had it halted, e would have heard its announcement
      stays_awake : (k : ℕ) → decision S k e ≡ none → halted S k q ≡ false
      unfolding after start
      stays_awake zero o = refl
      stays_awake (suc k) o =
          let o' = undecided_before L k e o in
          let c : Closer S k q = record { in_frame = in_frame i; awake = stays_awake k o'; up = stays (suc k) } in
          by_option (decision S k q) (awake_now L c i)
          (λ v m. absurd (clash (reached_decides L (undecided_closes k o') o' (closer_reaches L i c f (undecided_other L k e q o' m)) m) (is_none o)))

      stays_heard : (k : ℕ) → decision S k e ≡ none → heard S (after S k) k e q ≡ true
      stays_heard k o = closer_heard L i (record { in_frame = in_frame i; awake = stays_awake k o; up = stays (suc k) }) e f

      -- and e has heard it in every round
      was_heard : (k : ℕ) → decision S k e ≡ none → before S k e q ≡ true
      unfolding after start
      was_heard zero o = i
      was_heard (suc k) o =
          let o' = undecided_before L k e o in before_now L (undecided_closes k o') q ∙ stays_heard k o'

    module _ {p : ℕ} (pc : core p ≡ true) (stays : StaysUp S p) where
      -- e did not find the round stable, and somebody was heard: p
      changed : (k : ℕ) → decision S (suc k) e ≡ none → all (unchanged S (after S k) k e) (range 1 n) ≡ false
      unfolding stable
      changed k o =
          let o' = undecided_before L k e o in
          let c = undecided_closes k o' in
          by_option (announced S (after S k) k e)
          (λ t. false_of (all (unchanged S (after S k) k e) (range 1 n)) (λ q. none_some o (stable_decides L (record {
            closer = c;
            undecided = o';
            unannounced = t;
            same = and_intro (any_intro (heard S (after S k) k e) (range 1 n) p (in_frame pc) (stays_heard pc stays k o')) q;
          })).1))
          (λ w t. absurd (none_some o (decides_announced L c o' t)))

      shrinks : (k : ℕ) → decision S (suc k) e ≡ none → length (filter (before S (suc k) e) (range 1 n)) < length (filter (before S k e) (range 1 n))
      unfolding unchanged
      shrinks k o =
          let c = undecided_closes k (undecided_before L k e o) in
          let w = all_not (unchanged S (after S k) k e) (range 1 n) (changed k o) in
          let d = w.0 in
          let lost = beq_differ (heard S (after S k) k e d) (before S k e d) (heard_was_heard L c d) w.2 in
          length_filter_lt (before S (suc k) e) (before S k e) (range 1 n)
          (λ x g t. heard_was_heard L c x (sym (before_now L c x) ∙ t)) d w.1 (before_now L c d ∙ lost.0) lost.1

      -- k rounds cost k members
      lost_each_round : (k : ℕ) → decision S k e ≡ none → length (filter (before S k e) (range 1 n)) + k ≤ length (filter core (range 1 n))
      unfolding after start
      lost_each_round zero o = omega arith
      lost_each_round (suc k) o = let rest = lost_each_round k (undecided_before L k e o) in let less = shrinks k o in omega arith

      pub undecided_failures : (correct : ℕ → Bool) → ((d : ℕ) → correct d ≡ true → StaysUp S d)
          → (k : ℕ) → decision S k e ≡ none → k ≤ failures S correct
      undecided_failures correct all_stay k o =
          omega (
            arith,
            lost_each_round k o,
            length_filter_split core correct (range 1 n),
            length_filter_le (λ d. core d && correct d) (before S k e) (range 1 n)
                (λ d g t. was_heard (and_left (core d) _ t) (all_stay d (and_right (core d) _ t)) k o),
          )

-- ---- not too late

-- a core drive crashes in round k + 1 before it makes any send
pub record LostUnheard (S : Instance) (k : ℕ) : Type 0 where
  pub drive : ℕ
  pub in_core : S.core drive ≡ true
  pub up : S.alive k drive ≡ true
  pub gone : S.alive (suc k) drive ≡ false
  pub unheard : (e : ℕ) → S.reach k drive e ≡ false

module _ {S : Instance} (L : Lawful S) (f : ℕ) (lost : (k : ℕ) → k < f → LostUnheard S k) where
  pub undecided_while_losing : (k : ℕ) → k ≤ f → (d : ℕ) → InFrame S d → S.alive k d ≡ true → decision S k d ≡ none
  unfolding after start
  undecided_while_losing zero h d g u = refl
  undecided_while_losing (suc k) h d g u =
      let rest = undecided_while_losing k (omega arith) in
      let o = rest d g (L.no_return u) in
      let x = lost k h in
      let s = core_sends L (λ c i a. undecided_awake L k c (rest c (L.in_frame i) a)) x.in_core x.up in
      by_option (decision S (suc k) d) (λ q. q)
      (λ w m. absurd (⊎_elim
      (λ t. let from = t.reached.sender in none_some (rest t.from (L.in_frame from.in_core) from.up) t.made)
      (λ t. ⊎_elim
      (λ r. clash r.within (x.unheard d))
      (λ q. clash u (ap (S.alive (suc k)) (sym q.1) ∙ x.gone))
      (heard_cases L k d x.drive (stable_hears L t.0.same t.0.closer s)))
      (how_decided L k d o m)))
