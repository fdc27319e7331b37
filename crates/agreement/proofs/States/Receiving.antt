-- Receiving in a state of a run: the message of another core drive that comes for the first time meets none of the
-- refusals, and gives the state with that drive among the senders accepted. A KW adds what the sender knew to what is
-- known, and a DW keeps the announcement of the lowest-numbered sender.
use mathlib.Core.Path.{◌≡◌, refl, sym, ap, ◌∙◌, subst, fun_ext}
use mathlib.Core.Bool.{Bool, true, false, not, ◌||◌}
use mathlib.Core.Option.{none, some}
use Prim.Native.Nat.{ℕ, suc, ◌<◌}
use native.Mathlib.Omega.{arith}
use lib.Dec.{eqb}
use borrow.Author.Tests.{eqb-true, eq-eqb, ne_eqb}
use Rattle.drive_sets.specs.Bools.Laws.{by_test, and_intro, or_neither, or_right, or_false, cond_true, cond_false}
use Rattle.drive_sets.specs.Options.Laws.{by_option}
use Rattle.drive_sets.specs.Lists.{range, elem}
use Rattle.drive_sets.specs.Lists.Laws.{ordered_range}
use Rattle.drive_sets.specs.Masks.{has, union, subset, drives}
use Rattle.drive_sets.specs.Masks.Laws.{union_none, none_subset}
use Rattle.drive_sets.specs.Masks.Sizes.{size_le, elem_drives}
use Rattle.drive_sets.specs.Masks.Tests.{set_of, set_of_lt, union_set_of, insert_set_of, subset_set_of}
use Rattle.drive_sets.specs.Refusals.{yields}
use Rattle.drive_states.specs.declared.Exchange.{Exchange}
use Rattle.drive_sets.specs.Limits.{pattern_limit}
use Rattle.drive_sets.specs.Counts.Laws.{is_drive_range}
use Rattle.records.specs.Marks.{wide}
use Rattle.drive_states.specs.Messages.{Content, decided, message, mask_in, entries_in, known_of, message_bytes, wrong_mask}
use Rattle.drive_states.specs.Messages.Laws.{Written, known_written, decided_written, read_back}
use Rattle.agreement.specs.Calls.{decision_on, outside_core, any_differs, stored, announcing, accept, receiving}
use Rattle.agreement.proofs.CallLaws.{none_differs, receiving_accepted}
use Rattle.sync_crash.specs.Rounds.{Instance, InFrame, Lawful, knows, before, decision}
use Rattle.sync_crash.proofs.Rounds.Validity.{knows_own, knows_core, decision_proposed}
use Rattle.sync_crash.proofs.Rounds.HeardSets.{before_core}
use Rattle.agreement.proofs.States.{Bounded, InRound, numbers_of, announcement_of, known_from, announced_from, state_of, content_in, value_of, message_of}
use Rattle.agreement.proofs.States.Numbers.{stored_numbers}
use Rattle.agreement.proofs.States.Announcements.{lower_also}
use Rattle.agreement.proofs.States.KnownSets.{known_core, known_with}
use Rattle.agreement.proofs.States.Rules.{drive_64, has_core_set, core_set_full, state_number, state_unbroken, state_running}

-- d is another core drive, heard in the round before, whose message has not been accepted yet
pub record Incoming (S : Instance) (k e : ℕ) (from : ℕ → Bool) (d : ℕ) : Type 0 where
  pub in_core : S.core d ≡ true
  pub other : d ≡ e → ⊥
  pub was_heard : before S k e d ≡ true
  pub new : from d ≡ false

module _ {S : Instance} (L : Lawful S) (B : Bounded S) {k e : ℕ} {from : ℕ → Bool} (i : InRound S k e from) {d : ℕ} (m : Incoming S k e from d) where
  open S use {n, core, proposal}

  abbrev x : Exchange
  x = state_of S k e from

  abbrev with_d : ℕ → Bool
  with_d y = from y || eqb y d

  sender_in_frame : InFrame S d
  sender_in_frame = L.in_frame m.in_core

  sender_byte : d < 256
  sender_byte = omega (arith, (drive_64 L B d sender_in_frame).1)

  round_byte : suc k < 256
  round_byte = omega (arith, i.round, size_le (set_of core))

  -- ---- what the content of the message has to say, and then the state afterwards

  record Tells (c : Content) : Type 0 where
    written : Written wide (message d (suc k) c)
    mask : wrong_mask n d c ≡ false
    in_core : subset (mask_in c) (set_of core) ≡ true
    same : any_differs x (entries_in c) ≡ false
    known : union (set_of (known_from S k e from)) (mask_in c) ≡ set_of (known_from S k e with_d)
    numbers : stored (numbers_of proposal (known_from S k e from)) (entries_in c) ≡ numbers_of proposal (known_from S k e with_d)
    announced : announcing (announcement_of (announced_from S k from) (range 1 n)) d c ≡ announcement_of (announced_from S k with_d) (range 1 n)

  accepted_is : {c : Content} → Tells c → accept x (message d (suc k) c) ≡ state_of S k e with_d
  unfolding accept state_of
  accepted_is t = λ j. record {
    n = n;
    own = record { 0 = e };
    core = set_of core;
    round = record { 0 = suc k };
    before = set_of (before S k e);
    heard = (let b = drive_64 L B d sender_in_frame in insert_set_of from d b.0 b.1) j;
    known = t.known j;
    start = set_of (knows S k e);
    numbers = t.numbers j;
    announced = t.announced j;
    decision = decision_on (decision S k e);
    halted = false;
  }

  received : {c : Content} → Tells c → receiving x (message_bytes (message d (suc k) c)) ≡ yields (state_of S k e with_d)
  unfolding state_of outside_core
  received {c} t =
      receiving_accepted x (state_unbroken L B i) (state_running L B i) (message_bytes (message d (suc k) c)) (message d (suc k) c)
      (read_back n wide (message d (suc k) c) t.written (is_drive_range n d ∙ sender_in_frame) t.mask)
      (record {
        core = or_neither (or_neither (ne_eqb d e m.other) (ap not (has_core_set L B core (λ y h. h) d ∙ m.in_core))) (ap not t.in_core);
        round = refl;
        before = has_core_set L B (before S k e) (before_core L k e) d ∙ m.was_heard;
        heard = has_core_set L B from i.from_core d ∙ m.new;
        same = t.same;
      })
      ∙ ap yields (accepted_is t)

  -- ---- what is announced, at the sender and at the others

  announced_sender : announced_from S k with_d d ≡ decision S k d
  unfolding announced_from
  announced_sender = cond_true _ _ (or_right (from d) (eq-eqb d d refl))

  announced_before : announced_from S k from d ≡ none
  unfolding announced_from
  announced_before = cond_false _ _ m.new

  announced_others : (y : ℕ) → eqb y d ≡ false → announced_from S k with_d y ≡ announced_from S k from y
  unfolding announced_from
  announced_others y h = rw (h, or_false (from y)) refl

  -- ---- a KW

  module _ (undecided : decision S k d ≡ none) where
    has_known : (y : ℕ) → has y (set_of (knows S k d)) ≡ knows S k d y
    has_known = has_core_set L B (knows S k d) (knows_core L k d)

    listed_known : (y : ℕ) → elem y (drives (set_of (knows S k d))) ≡ knows S k d y
    listed_known y = elem_drives y (set_of (knows S k d)) (set_of_lt (knows S k d)) ∙ has_known y

    known_drive : (y : ℕ) → knows S k d y ≡ true → InFrame S y
    known_drive y h = L.in_frame (knows_core L k d y h)

    known_then : (y : ℕ) → (known_from S k e from y || knows S k d y) ≡ known_from S k e with_d y
    known_then y = sym (known_with L k e from d sender_in_frame y ∙ rw undecided refl)

    tells_known : Tells (known_of (set_of (knows S k d)) proposal)
    unfolding state_of mask_in entries_in wrong_mask announcing
    tells_known = record {
      written = known_written wide d (suc k) sender_byte round_byte (set_of (knows S k d)) proposal (set_of_lt (knows S k d))
          (λ y h. B.patterns y (known_drive y (sym (has_known y) ∙ h)));
      mask = ap not (and_intro (has_known d ∙ knows_own L k m.in_core) (core_set_full L B (knows S k d) (knows_core L k d)));
      in_core = subset_set_of (knows S k d) core (knows_core L k d);
      same = none_differs x proposal (drives (set_of (knows S k d)))
          (λ y listed h. state_number L B i y (sym (has_core_set L B (known_from S k e from) (known_core L k e from) y) ∙ h));
      known = union_set_of (known_from S k e from) (knows S k d) ∙ ap set_of (fun_ext known_then);
      numbers = stored_numbers proposal (known_from S k e from) (drives (set_of (knows S k d))) (λ y h. drive_64 L B y (known_drive y (sym (listed_known y) ∙ h)))
          ∙ ap (numbers_of proposal) (fun_ext (λ y. ap (λ (b : Bool). known_from S k e from y || b) (listed_known y) ∙ known_then y));
      announced = ap (λ f. announcement_of f (range 1 n)) (fun_ext (λ y. by_test (eqb y d)
          (λ h. rw (eqb-true y d h) (announced_before ∙ sym (announced_sender ∙ undecided)))
          (λ h. sym (announced_others y h))));
    }

  -- ---- a DW

  module _ {v : ℕ} (is : decision S k d ≡ some v) where
    pattern_small : v < pattern_limit
    pattern_small =
        let p = decision_proposed L k d is in
        subst (λ (z : ℕ). z < pattern_limit) (sym p.is) (B.patterns p.by (L.in_frame p.in_core))

    known_still : known_from S k e from ≡ known_from S k e with_d
    known_still = fun_ext (λ y. sym (known_with L k e from d sender_in_frame y ∙ rw is (or_false (known_from S k e from y))))

    tells_decided : Tells (decided v)
    unfolding state_of mask_in entries_in wrong_mask any_differs stored announcing
    tells_decided = record {
      written = decided_written wide d (suc k) sender_byte round_byte v pattern_small;
      mask = refl;
      in_core = none_subset (set_of core);
      same = refl;
      known = union_none (set_of (known_from S k e from)) ∙ ap set_of known_still;
      numbers = ap (numbers_of proposal) known_still;
      announced = lower_also (announced_from S k from) (announced_from S k with_d) d v announced_before (announced_sender ∙ is) announced_others
          (range 1 n) (ordered_range 1 n) sender_in_frame;
    }

  pub receiving_state : receiving x (message_of S k d) ≡ yields (state_of S k e with_d)
  unfolding value_of content_in
  receiving_state = by_option (decision S k d) (λ o. rw o (received (tells_known o))) (λ v o. rw o (received (tells_decided o)))
