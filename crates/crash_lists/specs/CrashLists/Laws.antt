-- Laws of the CR records that are read: each passes 8, 9 and 10 behind the one before it, since a record is taken only
-- where it is checked.
use Rattle.std.specs.Prelude.{◌≡◌, true, not, List, [], ◌∷◌, ◌++◌, ℕ, ◌≤◌, ltb, length}
use Rattle.std.proofs.Common.{sym, subst, append-nil}
use Rattle.std.proofs.Math.Seq.{append_snoc}
use borrow.Author.Tests.{not-false, ltb-false}
use Rattle.drive_sets.specs.declared.Refusal.TheVariants.{DriveNumber, CrashRound, CrashSends}
use Rattle.drive_sets.specs.Refusals.{yields}
use Rattle.drive_sets.specs.Refusals.Laws.{same_result, passed, first_result}
use Rattle.drive_sets.specs.Counts.{is_round}
use Rattle.records.specs.RecordLists.{ReadList, read_list}
use Rattle.records.specs.RecordLists.Laws.{read_keeps}
use Rattle.runs.specs.CrashRecords.{CrashRecord, is_next, most_sends, checked_crash}
use Rattle.crash_lists.specs.CrashLists.{crash_fields, CrashList, no_crash, taken_crash, crash_list}

-- ---- a CR that passes 8, 9 and 10

pub record Passes (n core last : ℕ) (c : CrashRecord) : Type 0 where
  pub next : is_next n last c.drive ≡ true
  pub round : is_round core c.round ≡ true
  pub sends : c.sends ≤ most_sends n core c.drive

module _ (n core last : ℕ) (c : CrashRecord) where
  pub checked_passes : {c' : CrashRecord} → checked_crash n core last c ≡ yields c' → (c ≡ c') × Passes n core last c
  unfolding checked_crash
  checked_passes e =
      let eight = passed (not (is_next n last c.drive)) DriveNumber _ e in
      let nine = passed (not (is_round core c.round)) CrashRound _ eight.1 in
      let ten = passed (ltb (most_sends n core c.drive) c.sends) CrashSends (yields c) nine.1 in (
        same_result ten.1,
        record {
          next = not-false (is_next n last c.drive) eight.0;
          round = not-false (is_round core c.round) nine.0;
          sends = ltb-false (most_sends n core c.drive) c.sends ten.0;
        },
      )

-- ---- all of them, one after the other

abbrev pub AllPass : ℕ → ℕ → ℕ → List CrashRecord → Type 0
AllPass n core last [] = Unit {0}
AllPass n core last (c ∷ cs) = Passes n core last c × AllPass n core c.drive cs

-- the records that are read
pub crashes_read : (n core : ℕ) (s : List ℕ) {r : ReadList CrashList} → read_list (crash_list n core) no_crash s ≡ yields r → AllPass n core 0 r.list.crashes
unfolding read_list taken_crash
crashes_read n core s {r} e =
    let w = read_keeps (crash_list n core) Good (λ l b t g going q. kept l b t g q) (length s) no_crash s (λ new all. all) e in
    subst (AllPass n core 0) (append-nil r.list.crashes) (w.1 [] tt)
  where
    -- records that pass behind the last pass behind those listed
    Good : CrashList → List ℕ → Type 0
    Good l b = (new : List CrashRecord) → AllPass n core l.last new → AllPass n core 0 (l.crashes ++ new)

    kept : (l : CrashList) (b : List ℕ) (t : CrashList) → Good l b → taken_crash n core l b ≡ yields t → Good t b
    kept l b t g q =
        let w = first_result (checked_crash n core l.last (crash_fields b)) (λ c. yields (record { crashes = l.crashes ++ (c ∷ []); last = c.drive })) q in
        let c = checked_passes n core l.last (crash_fields b) w.1 in
        subst (λ (x : CrashList). Good x b) (same_result w.2)
        (λ new all. subst (AllPass n core 0) (sym (append_snoc l.crashes w.0 new)) (g (w.0 ∷ new) (subst (Passes n core l.last) c.0 c.1, all)))
