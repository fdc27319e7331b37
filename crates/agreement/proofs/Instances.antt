-- The instance of a valid scenario is lawful, which is where the order of the sends matters, and meets the bounds of an
-- exchange. And what the statements count and name, in terms of the instance: the core's size, f, the drives that stay
-- up, and the core drive that an untouched survivor set gives.
use mathlib.Core.Path.{◌≡◌, sym, ap, ◌∙◌, subst, fun_ext}
use mathlib.Core.Bool.{Bool, true, not, ◌&&◌, not-not}
use mathlib.Core.List.{List}
use Prim.Native.Nat.{ℕ, suc, ◌<◌}
use native.Mathlib.Nat.{lt_of_lt_of_le}
use lib.Pow.{pow_mono}
use lib.ListN.{length}
use borrow.Author.Tests.{not-true}
use Rattle.drive_sets.specs.Lists.{range, filter, elem}
use Rattle.drive_sets.specs.Lists.Laws.{some_elem}
use Rattle.drive_sets.specs.Lists.Takes.{filter_filter}
use Rattle.drive_sets.specs.Masks.{has, size}
use Rattle.drive_sets.specs.Masks.Laws.{meets_has}
use Rattle.drive_sets.specs.Masks.Frames.{has_range, drives_frame, size_frame}
use Rattle.drive_sets.specs.Masks.Tests.{set_of, set_of_drives}
use Rattle.survivor_tables.specs.Tables.{chosen, Accepted}
use Rattle.survivor_tables.proofs.Tables.Laws.{ChosenCore, table_accepted, chosen_core_law, sets_below}
use Rattle.drive_sets.specs.Counts.Laws.{is_drive_range}
use Rattle.survivor_tables.specs.Order.{normal}
use Rattle.sync_crash.specs.Rounds.{InFrame, Lawful, StaysUp, failures}
use Rattle.runs.specs.Scenario.{Crash, stays, Scenario, frame, core_of, gone_by, has_crash}
use Rattle.agreement.specs.Sends.{list_of, reach}
use Rattle.runs.specs.Scenario.Laws.{no_crash_stays, gone_later}
use Rattle.agreement.proofs.SendLists.{cut_up, in_list_of, reach_core}
use Rattle.agreement.specs.Instance.{instance_of, correct}
use Rattle.runs.specs.Statement.{Valid, Untouched, Up, core_crashes}
use Rattle.agreement.proofs.States.{Bounded}

-- ---- an accepted table

module _ (n : ℕ) (sets : List ℕ) (a : Accepted n sets) where
  -- a listed set has a drive of the chosen core
  pub listed_core : (m : ℕ) → elem m sets ≡ true → (d : ℕ) × (has d m ≡ true) × (has d (chosen (normal sets)) ≡ true)
  listed_core m h = meets_has n m (chosen (normal sets)) (sets_below n sets a m h) ((chosen_core_law n sets a).meets_all m h)

  -- so the chosen core has a drive
  pub some_core_drive : (d : ℕ) × (has d (chosen (normal sets)) ≡ true)
  some_core_drive =
      let set = some_elem sets a.some in
      let d = listed_core set.0 set.1 in
      (d.0, d.2)

-- ---- a scenario whose table is accepted

module _ (s : Scenario) (a : Accepted s.n s.sets) where
  core_in_frame : (d : ℕ) → has d (core_of s) ≡ true → elem d (frame s) ≡ true
  unfolding frame core_of
  core_in_frame d h = has_range s.n (core_of s) (chosen_core_law s.n s.sets a).within d h

  pub accepted_lawful : Lawful (instance_of s)
  unfolding reach frame
  accepted_lawful = record {
    in_frame = λ {d} h. core_in_frame d h;
    no_return = λ {k} {d} h. ap not (gone_later (s.crash d) k (not-true _ h));
    full_reach = λ {k} {d} {e} c h f ne. ap (elem e) (cut_up (s.crash d) (suc k) (list_of s d) (not-true _ h)) ∙ in_list_of s d e f ne;
    core_first = λ {k} {d} {e} {c} h l i ne. reach_core s d (suc k) e c (core_in_frame c i) h l i ne;
  }

-- ---- a valid scenario

module _ {s : Scenario} (ok : Valid s) where
  pub valid_accepted : Accepted s.n s.sets
  valid_accepted = (table_accepted s.n s.sets (normal s.sets) ok.accepted).0

  pub valid_core : ChosenCore s.n s.sets (core_of s)
  unfolding core_of
  valid_core = chosen_core_law s.n s.sets valid_accepted

  pub core_frame : (d : ℕ) → has d (core_of s) ≡ true → elem d (frame s) ≡ true
  core_frame = core_in_frame s valid_accepted

  pub lawful : Lawful (instance_of s)
  lawful = accepted_lawful s valid_accepted

  -- ---- the bounds of an exchange

  pub core_mask : set_of (λ d. has d (core_of s)) ≡ core_of s
  core_mask = set_of_drives (core_of s) (lt_of_lt_of_le valid_core.within (pow_mono {i = s.n} {j = 64} valid_accepted.high))

  pub bounded : Bounded (instance_of s)
  unfolding core_of
  bounded =
      let d = some_core_drive s.n s.sets valid_accepted in
      record {
        low = valid_accepted.low;
        high = valid_accepted.high;
        core_drive = d.0;
        in_core = d.1;
        patterns = λ d f. ok.patterns d (is_drive_range s.n d ∙ f);
      }

  pub core_round : {k : ℕ} → k < size (core_of s) → k < size (set_of (instance_of s).core)
  core_round {k} h = subst (λ (m : ℕ). k < size m) (sym core_mask) h

  -- ---- sizes

  pub core_size : size (core_of s) ≡ length (filter (λ d. has d (core_of s)) (range 1 s.n))
  core_size = size_frame s.n (core_of s) valid_core.within valid_accepted.high

  -- f
  pub crashes_failures : core_crashes s ≡ failures (instance_of s) (correct s)
  unfolding core_crashes
  crashes_failures =
      ap length (ap (filter (λ d. has_crash (s.crash d))) (drives_frame s.n (core_of s) valid_core.within valid_accepted.high)
      ∙ (filter_filter (λ d. has_crash (s.crash d)) (λ d. has d (core_of s)) (range 1 s.n)
      ∙ ap (λ (p : ℕ → Bool). filter p (range 1 s.n)) (fun_ext (λ d. ap (λ (b : Bool). has d (core_of s) && b) (sym (not-not (has_crash (s.crash d))))))))

  -- ---- where a survivor set is untouched, a drive of the core stays up

  pub untouched_core : Untouched s → (d : ℕ) × (has d (core_of s) ≡ true) × (s.crash d ≡ stays)
  unfolding core_of
  untouched_core u =
      let d = listed_core s.n s.sets valid_accepted u.set u.listed in
      (d.0, d.2, u.stay d.0 d.1)

-- ---- the drives that stay up

module _ (s : Scenario) where
  pub stay_correct : (d : ℕ) → s.crash d ≡ stays → correct s d ≡ true
  unfolding has_crash
  stay_correct d h = ap (λ (c : Crash). not (has_crash c)) h

  pub correct_stays_up : (d : ℕ) → correct s d ≡ true → StaysUp (instance_of s) d
  unfolding gone_by
  correct_stays_up d h k = ap (λ (c : Crash). not (gone_by c k)) (no_crash_stays (s.crash d) (not-true _ h))

  pub up_in_frame : {d : ℕ} → Up s d → InFrame (instance_of s) d
  up_in_frame {d} u = sym (is_drive_range s.n d) ∙ u.in_frame

  pub up_correct : {d : ℕ} → Up s d → correct s d ≡ true
  up_correct {d} u = stay_correct d u.stay
