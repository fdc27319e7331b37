-- What stands behind the first 4096 bytes of the run program's input changes nothing: a run file has at most 64 PR or
-- PW and, since their drives rise, at most 64 CR.
use Rattle.std.specs.Prelude.{◌≡◌, refl, Bool, not, List, [], ◌∷◌, ◌++◌, ℕ, ◌-◌, ◌≤◌, ◌<◌, take}
use Rattle.std.proofs.Common.{sym, ◌∙◌, arith}
use Rattle.std.proofs.Math.Path.{ap}
use Rattle.drive_sets.specs.declared.Refusal.TheVariants.{TrailingBytes}
use Rattle.drive_sets.specs.Refusals.{Outcome, yields, refuse_if, and_then}
use Rattle.drive_sets.specs.Refusals.Laws.{same_result, first_result, then_same, then_assoc, then_then}
use Rattle.records.specs.Fields.{field_at}
use Rattle.records.specs.declared.Kind.{Kind}
use Rattle.records.specs.Marks.{number_width, kind_at}
use Rattle.records.specs.Marks.Laws.{number_most}
use Rattle.records.specs.RecordLists.{ReadList}
use Rattle.records.specs.RecordLists.Prefixes.{field_prefix, kind_prefix, widest, list_prefix}
use Rattle.survivor_tables.specs.Tables.{within_core_limit, chosen_core}
use Rattle.survivor_tables.proofs.Tables.Laws.{core_given}
use Rattle.survivor_tables.specs.declared.frames.MaskKind.TheVariants.{SurvivorSet}
use Rattle.table_files.specs.Files.{ReadTable, read_listed, accepted, read_table}
use Rattle.table_files.specs.Files.Prefixes.{empty_prefix, listed_prefix}
use Rattle.runs.specs.CrashRecords.{CrashRecord, checked_crash}
use Rattle.runs.specs.CrashRecords.Laws.{next_bounds}
use Rattle.crash_lists.specs.CrashLists.{crash_fields, CrashList, no_crash, taken_crash, crash_list}
use Rattle.crash_lists.specs.CrashLists.Laws.{checked_passes}
use Rattle.proposal_lists.specs.ProposalLists.{ProposalList, drive_at, no_proposal, with_proposal, taken_proposal, proposals_end, proposal_list}
use Rattle.proposal_lists.specs.ProposalLists.Laws.{was_taken}
use Rattle.run_files.specs.RunFiles.{RunFile, said, whole_run, untouched_left, behind_numbers, read_behind, read_run_file}
use Rattle.run_files.specs.RunFiles.Laws.{behind_records, behind_is}
use Rattle.simulation.specs.Simulation.{Simulated, simulated}
use Rattle.run_listing.specs.RunListing.{run_text, simulated_with, simulated_file, run_program}
use Rattle.drive_sets.specs.Limits.{max_input}

-- ---- one record: its fields, and one fewer can follow

crash_prefix : (n core : ℕ) (l : CrashList) (k : ℕ) (s : List ℕ) → widest ≤ k → taken_crash n core l (take k s) ≡ taken_crash n core l s
unfolding taken_crash crash_fields
crash_prefix n core l k s h =
    let d = field_prefix 2 1 k s (omega arith) in
    let r = field_prefix 3 1 k s (omega arith) in
    let m = field_prefix 4 1 k s (omega arith) in
    rw (d, r, m)

crashes_left : (n core : ℕ) (l : CrashList) (s : List ℕ) (t : CrashList) → taken_crash n core l s ≡ yields t → n - t.last < n - l.last
unfolding taken_crash
crashes_left n core l s t e =
    let w = first_result (checked_crash n core l.last (crash_fields s)) (λ c. yields (record { crashes = l.crashes ++ (c ∷ []); last = c.drive })) e in
    let p = checked_passes n core l.last (crash_fields s) w.1 in
    let b = next_bounds n l.last (crash_fields s).drive p.1.next in
    omega (arith, b.1, b.2, ap (λ (c : CrashRecord). c.drive) p.0, ap (λ (x : CrashList). x.last) (same_result w.2))

proposal_prefix : (n : ℕ) (l : ProposalList) (k : ℕ) (s : List ℕ) → widest ≤ k → taken_proposal n l (take k s) ≡ taken_proposal n l s
unfolding taken_proposal
proposal_prefix n l k s h =
    let number = ap (λ (kind : Kind). field_at 3 (number_width kind) (take k s)) (kind_prefix k s (omega arith)) ∙ field_prefix 3 (number_width (kind_at s)) k s (omega (arith, number_most (kind_at s))) in
    rw (field_prefix 2 1 k s (omega arith), number)

proposals_end_law : (n : ℕ) (l : ProposalList) (k : ℕ) (s : List ℕ) → widest ≤ k → proposals_end n l.last l.owed (take k s) ≡ proposals_end n l.last l.owed s
unfolding proposals_end
proposals_end_law n l k s h = rw (kind_prefix k s (omega arith))

proposals_left : (n : ℕ) (l : ProposalList) (s : List ℕ) (t : ProposalList) → taken_proposal n l s ≡ yields t → n - t.last < n - l.last
unfolding with_proposal
proposals_left n l s t e =
    let w = was_taken n l s e in
    let b = next_bounds n l.last (drive_at s) w.next in
    omega (arith, b.1, b.2, ap (λ (x : ProposalList). x.last) w.is)

-- ---- the run file

module _ (n core : ℕ) (sets : List ℕ) (frame : n ≤ 64) where
  -- what is made of the CR records behind the numbers
  whole : List ℕ → ReadList CrashList → Outcome RunFile
  whole numbers c = whole_run sets (said numbers c)

  whole_blind : (numbers : List ℕ) (l : CrashList) (rest : List ℕ) (j : ℕ) → 1 ≤ j → whole numbers (record { list = l; rest = take j rest }) ≡ whole numbers (record { list = l; rest = rest })
  unfolding whole whole_run
  whole_blind numbers l rest j h =
      ap (λ (b : Bool). refuse_if (not b) TrailingBytes (untouched_left sets (record { numbers = numbers; crashes = l.crashes }))) (empty_prefix j rest h)

  crashes_blind : (numbers rest : List ℕ) (j : ℕ) → 781 ≤ j → behind_numbers n core sets numbers (take j rest) ≡ behind_numbers n core sets numbers rest
  unfolding behind_numbers whole
  crashes_blind numbers rest j h =
      list_prefix (crash_list n core) (whole numbers) 1 (whole_blind numbers) (crash_prefix n core) (λ l k s e. refl) (λ l. n - l.last) (λ l b t going e. crashes_left n core l b t e) no_crash rest j (omega arith)

  behind_prefix : (s : List ℕ) (k : ℕ) → 1561 ≤ k → read_behind n core sets (take k s) ≡ read_behind n core sets s
  behind_prefix s k h =
      behind_is n core sets (take k s)
      ∙ (list_prefix (proposal_list n) (behind_records n core sets) 781 (λ l. crashes_blind l.numbers) (proposal_prefix n) (proposals_end_law n) (λ l. n - l.last) (λ l b t going e. proposals_left n l b t e) (no_proposal n core) s k (omega arith)
      ∙ sym (behind_is n core sets s))

run_file_prefix : (n : ℕ) (sets s : List ℕ) (k : ℕ) → 1561 ≤ k → read_run_file n sets (take k s) ≡ read_run_file n sets s
unfolding read_run_file
run_file_prefix n sets s k h = then_same (chosen_core n sets) (λ core e. behind_prefix n core sets (core_given n sets e).0.high s k (omega arith))

-- ---- the run program

abbrev simulated_table : ReadTable → Outcome Simulated
simulated_table t = simulated_with t.n t.sets t.rest

-- the table's refusal 13, and then the run file
table_prefix : (n : ℕ) (sets rest : List ℕ) (j : ℕ) → 1561 ≤ j
    → and_then (accepted (record { n = n; sets = sets; rest = take j rest })) simulated_table ≡ and_then (accepted (record { n = n; sets = sets; rest = rest })) simulated_table
unfolding accepted simulated_with
table_prefix n sets rest j h =
    then_then (within_core_limit sets) (λ table. record { n = n; sets = table; rest = take j rest }) simulated_table
    ∙ (then_same (within_core_limit sets) (λ table e. ap (λ (o : Outcome RunFile). and_then o (λ f. simulated n table f.numbers f.crashes)) (run_file_prefix n table rest j h))
    ∙ sym (then_then (within_core_limit sets) (λ table. record { n = n; sets = table; rest = rest }) simulated_table))

file_is : (s : List ℕ) → simulated_file s ≡ and_then (read_listed SurvivorSet s) (λ t. and_then (accepted t) simulated_table)
unfolding simulated_file read_table
file_is s = then_assoc (read_listed SurvivorSet s) accepted simulated_table

pub run_program_prefix : (s : List ℕ) → run_program (take max_input s) ≡ run_program s
unfolding run_program
run_program_prefix s =
    ap run_text (file_is (take max_input s) ∙ (listed_prefix SurvivorSet (λ t. and_then (accepted t) simulated_table) 1561 table_prefix s max_input (omega arith) ∙ sym (file_is s)))
