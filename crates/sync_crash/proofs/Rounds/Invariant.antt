-- The invariant after k rounds, over the drives that have no CR up to round k, and what one round keeps of its parts
-- (section 5 of the docs/AGREEMENT.md). U and A(v) of that page are one record, v being free while nobody has decided;
-- D(v) is the case that all have.
use Rattle.std.specs.Prelude.{◌≡◌, Bool, true, false, ◌&&◌, ◌⊎◌, ℕ, suc}
use Rattle.std.proofs.Common.{sym, ap, ◌∙◌, inl, inr, ⊎_elim}
use Rattle.std.proofs.Math.Option.{none, some}
use Rattle.drive_sets.specs.Bools.Laws.{clash, by_test, false_of, and_intro, and_left, and_right, same_sets}
use Rattle.drive_sets.specs.Options.{is_some}
use Rattle.drive_sets.specs.Options.Laws.{same_some, some_of, none_of}
use Rattle.drive_sets.specs.Lists.{range, any}
use Rattle.drive_sets.specs.Lists.Laws.{any_elem, any_not}
use Rattle.sync_crash.specs.Rounds.{Instance, InFrame, Lawful, smallest_of, knows, decision, halted}
use Rattle.sync_crash.proofs.Rounds.Steps.{Sender, Closer, awake_now, decision_stays, knows_stays, learnt}

module _ (S : Instance) (k : ℕ) where
  open S use {core, alive}

  abbrev pub AllDecided : Type 0
  AllDecided = (d : ℕ) → InFrame S d → alive k d ≡ true → is_some (decision S k d) ≡ true

  abbrev pub CoreDecided : Type 0
  CoreDecided = (d : ℕ) → core d ≡ true → alive k d ≡ true → is_some (decision S k d) ≡ true

  -- no core drive has halted: one that has decided did so in round k
  abbrev pub NoneHalted : Type 0
  NoneHalted = (d : ℕ) → core d ≡ true → alive k d ≡ true → halted S k d ≡ false

-- all core drives know the same, and the smallest number of it is v
pub record SameKnown (S : Instance) (k v : ℕ) : Type 0 where
  pub equal : (d c : ℕ) → S.core d ≡ true → S.alive k d ≡ true → S.core c ≡ true → S.alive k c ≡ true → knows S k d ≡ knows S k c
  pub value : (d : ℕ) → S.core d ≡ true → S.alive k d ≡ true → smallest_of S (knows S k d) ≡ some v

pub record Invariant (S : Instance) (k v : ℕ) : Type 0 where
  pub agree : (d : ℕ) {w : ℕ} → InFrame S d → S.alive k d ≡ true → decision S k d ≡ some w → w ≡ v
  pub phase : AllDecided S k ⊎ NoneHalted S k
  -- if a listener has decided, every core drive has, or is bound to decide v
  pub lock : (e : ℕ) {w : ℕ} → InFrame S e → S.core e ≡ false → S.alive k e ≡ true → decision S k e ≡ some w → CoreDecided S k ⊎ SameKnown S k v

-- a drive of the set that is alive after j rounds has decided after k
pub record SomeDecided (S : Instance) (among : ℕ → Bool) (j k : ℕ) : Type 0 where
  pub drive : ℕ
  pub in_frame : InFrame S drive
  pub is_among : among drive ≡ true
  pub up : S.alive j drive ≡ true
  pub value : ℕ
  pub made : decision S k drive ≡ some value

module _ {S : Instance} (L : Lawful S) where
  open S use {n, core, alive}
  open L use {in_frame, no_return}

  -- some drive of the set has decided, or none has
  pub any_decided : (among : ℕ → Bool) (j k : ℕ)
      → SomeDecided S among j k ⊎ ((d : ℕ) → InFrame S d → among d ≡ true → alive j d ≡ true → decision S k d ≡ none)
  any_decided among j k =
      by_test (any test (range 1 n))
      (λ t. let w = any_elem test (range 1 n) t in
      let d = w.0 in
      let passed = w.2 in
      let v = some_of (decision S k d) (search (and_left, and_right)) in
      inl (record { drive = d; in_frame = w.1; is_among = search and_left; up = search (and_left, and_right); value = v.0; made = v.1 }))
      (λ t. inr (λ d f a u. none_of (decision S k d) (false_of (is_some (decision S k d)) (λ m.
      clash (and_intro a (and_intro u m)) (any_not test (range 1 n) d t f)))))
    where
      test : ℕ → Bool
      test d = among d && (alive j d && is_some (decision S k d))

  -- a decision made before is still the invariant's value
  pub agree_stays : {k v : ℕ} → Invariant S k v → (d : ℕ) {u w : ℕ} → InFrame S d → alive (suc k) d ≡ true
      → decision S k d ≡ some u → decision S (suc k) d ≡ some w → w ≡ v
  agree_stays {k} I d f a q m = same_some m (decision_stays L k d q) ∙ I.agree d f (no_return a) q

  module _ {k : ℕ} (awake : NoneHalted S k) where
    pub core_sends : {d : ℕ} → core d ≡ true → alive k d ≡ true → Sender S k d
    core_sends {d} i a = record { in_core = i; awake = awake d i a; up = a }

    pub core_closes : {d : ℕ} → core d ≡ true → alive (suc k) d ≡ true → Closer S k d
    core_closes {d} i a = record { in_frame = in_frame i; awake = awake d i (no_return a); up = a }

    pub none_halted_next : ((d : ℕ) → core d ≡ true → alive (suc k) d ≡ true → decision S k d ≡ none) → NoneHalted S (suc k)
    none_halted_next undecided d i a = awake_now L (core_closes i a) i (undecided d i a)

    -- where all core drives know the same, nobody can learn anything new
    module _ {v : ℕ} (s : SameKnown S k v) where
      nothing_new : {d : ℕ} → core d ≡ true → alive (suc k) d ≡ true → knows S (suc k) d ≡ knows S k d
      nothing_new {d} i a =
          same_sets
          (λ x t. ⊎_elim (λ o. o)
          (λ w. let from = w.reached.sender in
          sym (ap (λ p. p x) (s.equal w.from d from.in_core from.up i (no_return a))) ∙ w.knew)
          (learnt L (core_closes i a) x t))
          (λ x. knows_stays L k d x)

      pub same_known_next : SameKnown S (suc k) v
      same_known_next = record {
        equal = λ d c i a j b. nothing_new i a ∙ (s.equal d c i (no_return a) j (no_return b) ∙ sym (nothing_new j b));
        value = λ d i a. ap (smallest_of S) (nothing_new i a) ∙ s.value d i (no_return a);
      }
