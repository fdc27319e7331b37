-- The CR records: one record, and what holds of the crashes listed once it is taken. The drives rise, so there are at most
-- n, and each new crash is the last of those listed.
use Rattle.std.specs.Prelude.{Err, None, Ok, Option, Result, Some}
use mathlib.Core.Path.{◌≡◌, refl, sym, ap, ◌∙◌, subst}
use mathlib.Core.Bool.{true}
use mathlib.Core.Logic.{⊎_elim}
use mathlib.Core.List.{List, [], ◌∷◌, ◌++◌}
use Prim.Native.Nat.{ℕ, ◌+◌, ◌-◌, ◌^◌, ◌≤◌, ◌<◌}
use native.Mathlib.Omega.{arith}
use lib.ListN.{length, get_or, take, drop, length-append, length-set}
use Rattle.drive_sets.specs.declared.Drive.{Drive}
use Rattle.drive_sets.specs.declared.Round.{Round}
use Rattle.drive_sets.specs.declared.Refusal.{Refusal}
use Rattle.drive_sets.specs.Bools.Laws.{clash}
use Rattle.drive_sets.specs.Masks.{has}
use Rattle.drive_sets.specs.Masks.Laws.{has_none}
use Rattle.drive_sets.specs.Masks.OneDrive.{insert_cases, insert_lt}
use Rattle.drive_sets.specs.Refusals.{Outcome, refused, yields, number}
use Rattle.drive_sets.specs.Refusals.Laws.{same_result, first_result}
use Rattle.records.specs.declared.Due.TheVariants.{AtRecordOrEnd}
use Rattle.records.specs.declared.Kind.TheVariants as kinds
use Rattle.records.specs.declared.Next.{Next}
use Rattle.records.specs.declared.Next.TheVariants as nexts
use Rattle.records.specs.Marks.{body_width, width_at, is_due}
use Rattle.records.specs.RecordLists.{next_of, ReadList, step_of, read_list}
use Rattle.records.specs.RecordLists.Laws.{OwnKind, own_width, other_kind, one_whole}
use Rattle.records.proofs.Lists.{first_byte, Reading, reading_start, reading_stop, reading_end, end_within, step_taken, reading_own}
use Rattle.drive_sets.specs.Limits.{max_drives}
use Rattle.drive_crashes.specs.declared.Crashes.{Crashes}
use Rattle.crash_lists.specs.Held.{Held}
use Rattle.runs.specs.CrashRecords.{CrashRecord, is_next, checked_crash}
use Rattle.runs.specs.CrashRecords.Laws.{next_bounds}
use Rattle.crash_lists.specs.CrashLists.{crash_fields, CrashList, no_crash, taken_crash, crash_list}
use Rattle.crash_lists.specs.CrashLists.Laws.{checked_passes}
use Rattle.drive_crashes.specs.Crashes.{no_crashes, crash_record, crashes_in, with_crash}
use Rattle.drive_crashes.specs.Crashes.Laws.{none_listed, with_crash_listed}

-- ---- one record

own_crash : (n core : ℕ) → OwnKind (crash_list n core) kinds.Crash
unfolding is_due
own_crash n core l k d t = other_kind kinds.Crash k d t

pub crash_long : (count : ℕ) (s : List ℕ) {next : Result Next Refusal} → next ≡ next_of (AtRecordOrEnd kinds.Crash) count s → next ≡ Ok nexts.One → 5 ≤ length s
unfolding body_width
crash_long count s h e =
    let is = sym h ∙ e in
    omega (arith, one_whole (AtRecordOrEnd kinds.Crash) count s is, own_width (crash_list 0 0) kinds.Crash (own_crash 0 0) no_crash count s is)

-- its fields are its bytes
pub crash_fields_law : (s : List ℕ) → 5 ≤ length s → crash_fields s ≡ record { drive = get_or s 2 0; round = get_or s 3 0; sends = get_or s 4 0 }
unfolding crash_fields
crash_fields_law s long = rw (first_byte s 2 (omega arith), first_byte s 3 (omega arith), first_byte s 4 (omega arith))

-- ---- what holds of the crashes listed

pub held_none : (n : ℕ) → n ≤ max_drives → Held n no_crashes 0 0
held_none n h = record {
  frame = h;
  up_to = omega arith;
  word = omega arith;
  rounds = refl;
  sends = refl;
  below = λ d h. absurd (clash h (has_none d));
  counted = ap length (none_listed no_crashes refl);
  few = omega arith;
}

-- one more crash, which was checked
module _ {n : ℕ} {c : Crashes} {last count : ℕ} (h : Held n c last count) (core : ℕ) (drive : Drive) (round : Round) (sends : ℕ)
    (e : yields (crash_record drive round sends) ≡ checked_crash n core last (crash_record drive round sends)) where
  pub crash_bounds : (1 ≤ drive.0) × (drive.0 ≤ n) × (last < drive.0)
  unfolding crash_record
  crash_bounds = next_bounds n last drive.0 (checked_passes n core last (crash_record drive round sends) (sym e)).1.next

  pub high : drive.0 ≤ max_drives
  high = omega (arith, crash_bounds.1, h.frame)

  pub one_more : crashes_in (with_crash c drive.0 round sends) ≡ crashes_in c ++ (crash_record drive round sends ∷ [])
  unfolding crash_record
  one_more = with_crash_listed c drive.0 round sends h.word h.rounds h.sends crash_bounds.0 high (λ d g. omega (arith, h.below d g, crash_bounds.2))

  pub held_more : Held n (with_crash c drive.0 round sends) drive.0 (count + 1)
  unfolding with_crash
  held_more = record {
    frame = h.frame;
    up_to = crash_bounds.1;
    word = insert_lt drive.0 crash_bounds.0 high c.crashed h.word;
    rounds = length-set c.rounds (drive.0 - 1) round ∙ h.rounds;
    sends = length-set c.sends (drive.0 - 1) sends ∙ h.sends;
    below = λ d g. ⊎_elim (λ i. omega (arith, h.below d i, crash_bounds.2)) (λ i. omega arith) (insert_cases drive.0 crash_bounds.0 high d c.crashed g);
    counted = ap length one_more ∙ (length-append (crashes_in c) (crash_record drive round sends ∷ []) ∙ omega (arith, h.counted));
    few = omega (arith, h.few, crash_bounds.2);
  }

-- a CR is as wide as it is
pub crash_width : (n core : ℕ) (l : CrashList) (s : List ℕ) → next_of (AtRecordOrEnd kinds.Crash) (length l.crashes) s ≡ Ok nexts.One → 5 ≡ width_at s
unfolding body_width
crash_width n core l s e = sym (own_width (crash_list n core) kinds.Crash (own_crash n core) l (length l.crashes) s e)
