-- Every round keeps the invariant (section 5 of docs/AGREEMENT.md): where all have decided, where a core drive
-- announces, and where none does. So it holds after every round, whatever the failures, as long as some core drive p
-- has no CR.
use Rattle.std.specs.Prelude.{◌≡◌, true, false, not}
use Rattle.std.proofs.Math.Path.{refl}
use Rattle.std.proofs.Common.{sym, ap, ◌∙◌, inl, ⊎_elim}
use Rattle.std.proofs.Math.Logic.{inr}
use Rattle.std.proofs.Math.Option.{none, some}
use Prim.Native.Nat.{ℕ, zero, suc}
use Rattle.std.proofs.lemmas.Bool.{not-true}
use Rattle.drive_sets.specs.Bools.Laws.{clash, by_test}
use Rattle.drive_sets.specs.Options.Laws.{by_option, none_some, same_some, is_some_law, is_none, some_of}
use Rattle.sync_crash.specs.Rounds.{Instance, InFrame, Lawful, start, smallest_of, after, knows, decision, StaysUp}
use Rattle.sync_crash.proofs.Rounds.Steps.{Closer, undecided_awake, decision_stays}
use Rattle.sync_crash.proofs.Rounds.Decisions.{Announcement, StableClose, undecided_other, reached_decides, how_decided, decided_stays}
use Rattle.sync_crash.proofs.Rounds.HeardSets.{closer_reaches, reaches_core}
use Rattle.sync_crash.proofs.Rounds.StableRounds.{stable_undecided, listener_knows_same, stable_knows_same}
use Rattle.sync_crash.proofs.Rounds.Invariant.{AllDecided, CoreDecided, NoneHalted, SameKnown, Invariant, SomeDecided, any_decided, agree_stays, core_sends, core_closes, none_halted_next, same_known_next}

module _ {S : Instance} (L : Lawful S) where
  open S use {core, alive}
  open L use {in_frame, no_return}

  -- ---- all have decided

  all_decided_next : {k v : ℕ} → Invariant S k v → AllDecided S k → Invariant S (suc k) v
  all_decided_next {k} I all = record {
    agree = λ d f a m. agree_stays L I d f a (some_of (decision S k d) (all d f (no_return a))).1 m;
    phase = inl (λ d f a. decided_stays L k d (all d f (no_return a)));
    lock = λ e f l a m. inl (λ d i b. decided_stays L k d (all d (in_frame i) (no_return b)));
  }

  -- ---- who hears an announcement

  module _ {k : ℕ} (awake : NoneHalted S k) where
    -- an announcement by a drive that closes the round comes to everybody
    all_reached : SomeDecided S core (suc k) k → AllDecided S (suc k)
    all_reached b e f u =
        by_option (decision S k e)
        (λ o. reached_decides L (record { in_frame = f; awake = undecided_awake L k e o; up = u }) o
        (closer_reaches L b.is_among (core_closes L awake b.is_among b.up) f (undecided_other L k e b.drive o b.made)) b.made)
        (λ w q. is_some_law (decision_stays L k e q))

    -- an announcement that comes to a listener comes to every core drive
    core_reached : {e w : ℕ} → core e ≡ false → Announcement S k e w → CoreDecided S (suc k)
    core_reached l t d i u =
        by_option (decision S k d)
        (λ o. reached_decides L (core_closes L awake i u) o (reaches_core L t.reached l i (undecided_other L k d t.from o t.made)) t.made)
        (λ w q. is_some_law (decision_stays L k d q))

  module _ {k v : ℕ} (awake : NoneHalted S k) (I : Invariant S k v) where
    -- ---- some core drive has decided: it announces

    module _ (a : SomeDecided S core k k) where
      -- nobody finds the round stable, so whoever decides got an announcement
      only_announced : (e : ℕ) {w : ℕ} → decision S k e ≡ none → decision S (suc k) e ≡ some w → Announcement S k e w
      only_announced e o m =
          ⊎_elim (λ t. t) (λ t. absurd (none_some (stable_undecided L t.0 (core_sends L awake a.is_among a.up)) a.made)) (how_decided L k e o m)

      announced_next : Invariant S (suc k) v
      announced_next = record {
        agree = λ d f u m. by_option (decision S k d)
            (λ o. let t = only_announced d o m in
            let s = t.reached.sender in
            I.agree t.from (in_frame s.in_core) s.up t.made)
            (λ w q. agree_stays L I d f u q m);
        phase = ⊎_elim (λ b. inl (all_reached awake b)) (λ none_left. inr (none_halted_next L awake (λ d i u. none_left d (in_frame i) i u)))
            (any_decided L core (suc k) k);
        lock = λ e f l u m. by_option (decision S k e)
            (λ o. inl (core_reached awake l (only_announced e o m)))
            (λ w q. ⊎_elim (λ c. inl (λ d i b. decided_stays L k d (c d i (no_return b)))) (λ s. inr (same_known_next L awake s)) (I.lock e f l (no_return u) q));
      }

    -- ---- no core drive has decided: nobody announces

    module _ {p : ℕ} (pc : core p ≡ true) (stays : StaysUp S p) (core_undecided : (d : ℕ) → core d ≡ true → alive k d ≡ true → decision S k d ≡ none) where
      only_stable : (e : ℕ) {w : ℕ} → decision S k e ≡ none → decision S (suc k) e ≡ some w → StableClose S k e × (smallest_of S (knows S (suc k) e) ≡ some w)
      only_stable e o m =
          ⊎_elim (λ t. let s = t.reached.sender in absurd (none_some (core_undecided t.from s.in_core s.up) t.made)) (λ t. t) (how_decided L k e o m)

      awake_next : NoneHalted S (suc k)
      awake_next = none_halted_next L awake (λ d i u. core_undecided d i (no_return u))

      p_closes : Closer S k p
      p_closes = core_closes L awake pc (stays (suc k))

      -- the lock holds: every decision is v
      locked_next : SameKnown S k v → Invariant S (suc k) v
      locked_next same =
          let s = same_known_next L awake same in
          record {
            agree = λ d f u m. by_option (decision S k d)
                (λ o. let t = only_stable d o m in
                same_some t.1 (by_test (core d) (λ i. s.value d i u)
                (λ l. ap (smallest_of S) (listener_knows_same L t.0 pc p_closes l) ∙ s.value p pc (stays (suc k)))))
                (λ w q. agree_stays L I d f u q m);
            phase = inr awake_next;
            lock = λ e f l u m. inr s;
          }

      -- nobody at all has decided
      module _ (all_undecided : (d : ℕ) → InFrame S d → alive k d ≡ true → decision S k d ≡ none) where
        first_stable : (d : ℕ) {w : ℕ} → InFrame S d → alive (suc k) d ≡ true → decision S (suc k) d ≡ some w
            → StableClose S k d × (smallest_of S (knows S (suc k) d) ≡ some w)
        first_stable d f u m = only_stable d (all_undecided d f (no_return u)) m

        -- e is one of those that decide
        first_next : (e : ℕ) {w : ℕ} → InFrame S e → alive (suc k) e ≡ true → decision S (suc k) e ≡ some w → Invariant S (suc k) w
        first_next e f u m =
            let r = first_stable e f u m in
            record {
              agree = λ d g b q. let t = first_stable d g b q in
                  same_some t.1 (ap (smallest_of S) (stable_knows_same L pc p_closes t.0 r.0) ∙ r.1);
              phase = inr awake_next;
              lock = λ d g l b q. let t = first_stable d g b q in
                  let known_to : (x : ℕ) → core x ≡ true → alive (suc k) x ≡ true → knows S (suc k) x ≡ knows S (suc k) d =
                  λ x i ux. sym (listener_knows_same L t.0 i (core_closes L awake i ux) l) in
                  inr (record {
                    equal = λ x y i ux j uy. known_to x i ux ∙ sym (known_to y j uy);
                    value = λ x i ux. ap (smallest_of S) (known_to x i ux ∙ stable_knows_same L pc p_closes t.0 r.0) ∙ r.1;
                  });
            }

        undecided_next : (w : ℕ) × Invariant S (suc k) w
        undecided_next =
            ⊎_elim
            (λ b. (b.value, first_next b.drive b.in_frame b.up b.made))
            (λ none_left. (
              0,
              record {
                agree = λ d f u m. absurd (none_some (none_left d f refl u) m);
                phase = inr awake_next;
                lock = λ e f l u m. absurd (none_some (none_left e f refl u) m);
              },
            ))
            (any_decided L (λ d. true) (suc k) (suc k))

      stable_next : (w : ℕ) × Invariant S (suc k) w
      stable_next =
          ⊎_elim
          (λ b. (
            v,
            ⊎_elim (λ c. absurd (clash (c p pc (stays k)) (is_none (core_undecided p pc (stays k))))) locked_next
                (I.lock b.drive b.in_frame (not-true (core b.drive) b.is_among) b.up b.made),
          ))
          (λ no_listener. undecided_next (λ d f u. by_test (core d) (λ i. core_undecided d i u) (λ l. no_listener d f (ap not l) u)))
          (any_decided L (λ d. not (core d)) k k)

  -- ---- the invariant

  module _ {p : ℕ} (pc : core p ≡ true) (stays : StaysUp S p) where
    pub invariant_next : {k v : ℕ} → Invariant S k v → (w : ℕ) × Invariant S (suc k) w
    invariant_next {k} {v} I =
        ⊎_elim
        (λ all. (v, all_decided_next I all))
        (λ awake. ⊎_elim
        (λ a. (v, announced_next awake I a))
        (λ core_undecided. stable_next awake I pc stays (λ d i u. core_undecided d (in_frame i) i u))
        (any_decided L core k k))
        I.phase

    pub invariant : (k : ℕ) → (v : ℕ) × Invariant S k v
    unfolding after start
    invariant zero = (0, record { agree = λ d f u m. absurd (none_some refl m); phase = inr (λ d i u. refl); lock = λ e f l u m. absurd (none_some refl m) })
    invariant (suc k) = let r = invariant k in invariant_next r.1
