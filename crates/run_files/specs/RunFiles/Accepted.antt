-- What a run file that is not refused says: a pattern number to each drive, crashes that pass 8, 9 and 10, drives
-- rising, and a survivor set that no crash touches.
use Rattle.std.specs.Prelude.{◌≡◌, true, false, not, cond, ℕ, ◌-◌, ◌≤◌, ◌<◌, eqb, leb, ltb, length, get_or, is_none}
use Rattle.std.proofs.Math.Path.{refl, subst}
use Rattle.std.proofs.Common.{sym, ap, ◌∙◌, ⊎_elim, arith}
use mathlib.Core.List.{List, [], ◌∷◌}
use Rattle.std.proofs.Math.Option.{none, some, Option}
use borrow.Author.Tests.{leb-true, lt-ltb, eqb-true, eqb-false, ne_eqb}
use Rattle.drive_sets.specs.Bools.Laws.{clash, by_test, and_intro, and_left, and_right, cond_true, cond_false}
use Rattle.drive_sets.specs.Lists.{all, elem, ordered}
use Rattle.drive_sets.specs.Lists.Laws.{elem_none, elem_head, elem_cases, any_false, all_intro}
use Rattle.drive_sets.specs.Masks.{has, size}
use Rattle.drive_sets.specs.Masks.Laws.{meets_not}
use Rattle.drive_sets.specs.Masks.Sizes.{has_of_drives}
use Rattle.drive_sets.specs.Options.{is_some}
use Rattle.drive_sets.specs.Options.Laws.{none_some, same_some, none_of}
use Rattle.drive_sets.specs.declared.Refusal.TheVariants.{TrailingBytes, NoneUntouched}
use Rattle.drive_sets.specs.Refusals.{yields}
use Rattle.drive_sets.specs.Refusals.Laws.{same_result, passed, first_result}
use Rattle.survivor_tables.specs.Hitting.{first_missed}
use Rattle.survivor_tables.specs.Hitting.Laws.{some_missed}
use Rattle.survivor_tables.specs.Order.{normal}
use Rattle.survivor_tables.specs.Tables.{is_empty, chosen, chosen_core}
use Rattle.survivor_tables.specs.Tables as tables
use Rattle.survivor_tables.proofs.Tables.Laws.{core_given}
use Rattle.drive_sets.specs.Limits.{pattern_limit}
use Rattle.records.specs.RecordLists.{read_list}
use Rattle.runs.specs.CrashRecords.{drives_of, CrashRecord, crashed, most_sends}
use Rattle.runs.specs.CrashRecords.Laws.{next_bounds}
use Rattle.drive_sets.specs.Counts.{is_round}
use Rattle.crash_lists.specs.CrashLists.{no_crash, crash_list}
use Rattle.crash_lists.specs.CrashLists.Laws.{Passes, AllPass, crashes_read}
use Rattle.run_files.specs.RunFiles.{RunFile, ReadRun, read_records, untouched_left, whole_run, read_behind, read_run_file}
use Rattle.records.specs.Fields.{Bytes}
use Rattle.proposal_lists.specs.ProposalLists.{read_proposals}
use Rattle.proposal_lists.specs.ProposalLists.Laws.{numbers_read_law}

-- ---- one crash

-- the CR of a drive, or none
unfoldable pub crash_of : List CrashRecord → ℕ → Option CrashRecord
crash_of [] d = none
crash_of (c ∷ cs) d = cond (eqb c.drive d) (some c) (crash_of cs d)

-- a CR that passes 8, 9 and 10, in plain terms
pub record Allowed (n core : ℕ) (c : CrashRecord) : Type 0 where
  pub from : 1 ≤ c.drive
  pub in_frame : c.drive ≤ n
  pub round_from : 1 ≤ c.round
  pub round_up_to : c.round ≤ size core
  pub of_core : has c.drive core ≡ true → c.sends ≤ n - 1
  pub of_listener : has c.drive core ≡ false → c.sends ≡ 0

pub allowed : (n core last : ℕ) (c : CrashRecord) → Passes n core last c → Allowed n core c
unfolding is_round most_sends
allowed n core last c p =
    let d = next_bounds n last c.drive p.next in
    record {
      from = d.0;
      in_frame = d.1;
      round_from = leb-true 1 c.round (and_left (leb 1 c.round) (leb c.round (size core)) p.round);
      round_up_to = leb-true c.round (size core) (and_right (leb 1 c.round) (leb c.round (size core)) p.round);
      of_core = λ h. subst (λ (k : ℕ). c.sends ≤ k) (cond_true (n - 1) 0 h) p.sends;
      of_listener = λ h. let none_made = subst (λ (k : ℕ). c.sends ≤ k) (cond_false (n - 1) 0 h) p.sends in omega arith;
    }

-- ---- the crash of a drive

module _ (n core : ℕ) where
  -- the CR of a drive names it, and passes
  pub crash_allowed : (last : ℕ) (cs : List CrashRecord) → AllPass n core last cs → (d : ℕ) {c : CrashRecord} → crash_of cs d ≡ some c → (c.drive ≡ d) × Allowed n core c
  unfolding crash_of
  crash_allowed last [] all d e = absurd (none_some refl e)
  crash_allowed last (x ∷ cs) all d {c} e =
      by_test (eqb x.drive d)
      (λ t. let same : x ≡ c = same_some (cond_true (some x) (crash_of cs d) t) e in
      subst (λ (y : CrashRecord). (y.drive ≡ d) × Allowed n core y) same (eqb-true x.drive d t, allowed n core last x all.0))
      (λ t. crash_allowed x.drive cs all.1 d (sym (cond_false (some x) (crash_of cs d) t) ∙ e))

  -- each drive is above the last, and they rise
  above_last : (last : ℕ) (cs : List CrashRecord) → AllPass n core last cs → (d : ℕ) → elem d (drives_of cs) ≡ true → (last < d) × (1 ≤ d) × (d ≤ n)
  above_last last [] all d h = absurd (clash h (elem_none d))
  above_last last (c ∷ cs) all d h =
      let b = next_bounds n last c.drive all.0.next in
      ⊎_elim (λ e. (omega (arith, b.2), omega (arith, b.0), omega (arith, b.1)))
      (λ e. let w = above_last c.drive cs all.1 d e in (omega (arith, b.2, w.0), w.1, w.2))
      (elem_cases d c.drive (drives_of cs) h)

  pub rising : (last : ℕ) (cs : List CrashRecord) → AllPass n core last cs → ordered ltb (drives_of cs) ≡ true
  unfolding ordered
  rising last [] all = refl
  rising last (c ∷ cs) all =
      and_intro (all_intro (ltb c.drive) (drives_of cs) (λ d h. lt-ltb c.drive d (above_last c.drive cs all.1 d h).0)) (rising c.drive cs all.1)

-- a drive has a CR or none
elem_crash : (cs : List CrashRecord) (d : ℕ) → elem d (drives_of cs) ≡ is_some (crash_of cs d)
unfolding elem crash_of
elem_crash [] d = elem_none d
elem_crash (c ∷ cs) d =
    by_test (eqb c.drive d)
    (λ t. ap (λ (e : ℕ). elem e (c.drive ∷ drives_of cs)) (sym (eqb-true c.drive d t))
    ∙ (elem_head c.drive (drives_of cs) ∙ sym (ap is_some (cond_true (some c) (crash_of cs d) t))))
    (λ t. any_false (eqb d) c.drive (drives_of cs) (ne_eqb d c.drive (λ e. eqb-false c.drive d t (sym e)))
    ∙ (elem_crash cs d ∙ sym (ap is_some (cond_false (some c) (crash_of cs d) t))))

module _ (n core : ℕ) (frame : n ≤ 64) (cs : List CrashRecord) (all : AllPass n core 0 cs) where
  -- the drives with a CR are those of the mask
  pub has_crashed : (d : ℕ) → has d (crashed cs) ≡ is_some (crash_of cs d)
  unfolding crashed
  has_crashed d =
      has_of_drives d (drives_of cs) (λ e h. let b = above_last n core 0 cs all e h in (b.1, omega (arith, b.2))) ∙ elem_crash cs d

-- ---- a run file that is not refused

pub record Accepted (n : ℕ) (sets s : List ℕ) (f : RunFile) : Type 0 where
  pub table : tables.Accepted n sets
  pub many : length f.numbers ≡ n
  pub patterns : Bytes s → (i : ℕ) → get_or f.numbers i 0 < pattern_limit
  pub passes : (d : ℕ) (c : CrashRecord) → crash_of f.crashes d ≡ some c → (c.drive ≡ d) × Allowed n (chosen (normal sets)) c
  pub drives_rise : ordered ltb (drives_of f.crashes) ≡ true
  pub with_crash : (d : ℕ) → has d (crashed f.crashes) ≡ is_some (crash_of f.crashes d)
  pub untouched : (set : ℕ) × (elem set sets ≡ true) × ((d : ℕ) → has d set ≡ true → crash_of f.crashes d ≡ none)

pub not_refused : (n : ℕ) (sets s : List ℕ) (f : RunFile) → read_run_file n sets s ≡ yields f → Accepted n sets s f
unfolding read_run_file read_behind read_records whole_run untouched_left
not_refused n sets s f e =
    let found = first_result (chosen_core n sets) (λ k. read_behind n k sets s) e in
    let given = core_given n sets found.1 in
    let read = first_result (read_records n core s) (whole_run sets) (ap (λ (k : ℕ). read_behind n k sets s) given.1 ∙ found.2) in
    let first = first_result (read_proposals n core s) _ read.1 in
    let p = first.0 in
    let second = first_result (read_list (crash_list n core) no_crash p.rest) _ first.2 in
    let c = second.0.list in
    let is = same_result second.2 in
    let ended = passed (not (is_empty read.0.rest)) TrailingBytes (untouched_left sets read.0.file) read.2 in
    let left = passed (is_none (first_missed sets (crashed c.crashes))) NoneUntouched _ (ap (λ (r : ReadRun). untouched_left sets r.file) is ∙ ended.1) in
    let high = given.0.high in
    let numbers = numbers_read_law n core s first.1 in
    let all = crashes_read n core p.rest second.1 in
    let same = same_result left.1 in
    let set = some_missed sets (crashed c.crashes) left.0 in
    let whole : Accepted n sets s (record { numbers = p.list; crashes = c.crashes }) = record {
      table = given.0;
      many = numbers.many;
      patterns = numbers.patterns;
      passes = λ d x h. crash_allowed n core 0 c.crashes all d h;
      drives_rise = rising n core 0 c.crashes all;
      with_crash = has_crashed n core high c.crashes all;
      untouched =
          (set.0, set.1, λ d h. none_of (crash_of c.crashes d) (sym (has_crashed n core high c.crashes all d) ∙ meets_not d set.0 (crashed c.crashes) set.2 h));
    } in
    subst (Accepted n sets s) same whole
  where
    core : ℕ
    core = chosen (normal sets)
