-- Listeners' proposals retired: the simulated exchange does not use them, core drives have the numbers of their
-- records, and old files keep what they gave.
use mathlib.Core.Path.{◌≡◌, sym, ap, ◌∙◌, subst}
use mathlib.Core.Bool.{not}
use mathlib.Core.List.{List, [], ◌++◌}
use Prim.Native.Nat.{ℕ, ◌-◌}
use native.Mathlib.Omega.{arith}
use lib.ListN.{length, get_or, length-replicate}
use Rattle.drive_sets.specs.Masks.Laws.{has_bounds}
use Rattle.drive_sets.specs.declared.Refusal.TheVariants.{NoneUntouched, TrailingBytes}
use Rattle.std.specs.Prelude.{is_none}
use Rattle.survivor_tables.specs.Hitting.{first_missed}
use Rattle.drive_sets.specs.Refusals.{Outcome, yields, refuse_if, and_then}
use Rattle.drive_sets.specs.Refusals.Laws.{same_result, passed, first_result, then_same}
use Rattle.survivor_tables.specs.Order.{normal}
use Rattle.survivor_tables.specs.Tables.{is_empty, chosen, normal_table, chosen_core}
use Rattle.table_files.specs.Files.{ReadTable}
use Rattle.survivor_tables.proofs.Tables.Laws.{table_accepted, core_given, chosen_core_law}
use Rattle.records.specs.RecordLists.{ReadList, read_list}
use Rattle.runs.specs.Scenario.{core_of}
use Rattle.runs.specs.CrashRecords.{crashed, scenario}
use Rattle.runs.specs.Statement.{core_crashes}
use Rattle.agreement.specs.RoundEndings.{Ending, ListenersFree}
use Rattle.agreement.proofs.Listeners.{listeners_free}
use Rattle.proposal_lists.specs.ProposalLists.{ProposalList, no_proposal, proposal_list, proposal_bytes}
use Rattle.crash_lists.specs.CrashLists.{CrashList, no_crash, crash_list}
use Rattle.run_files.specs.RunFiles.{RunFile, said, untouched_left, whole_run, behind_numbers, read_behind, read_run_file}
use Rattle.run_files.specs.RunFiles.Laws.{behind_records, behind_is}
use Rattle.simulation.specs.Simulation.{checked_crashes, simulated}
use Rattle.run_listing.specs.RunListing.{run_text, simulated_with, simulated_file, run_program}
use Rattle.promises.specs.Listeners.{ListenersUnused, Own, RunFileNumbers, list_before, records_before, file_before, simulated_before, FilesBefore, ExchangesBefore, ListingsBefore}
use Rattle.promises.proofs.ProposalsWritten.{says_all, file_read}
use Rattle.promises.proofs.ProposalsKept.{read_kept, said_own}
use Rattle.promises.proofs.ProposalsBefore.{alike_start, still_read}

-- ---- the simulated exchange

pub listeners_unused : ListenersUnused
unfolding ListenersUnused ListenersFree simulated scenario core_of core_crashes
listeners_unused n sets numbers others crs same =
    then_same (normal_table n sets) (λ table e.
    ap (λ (es : List Ending). checked_crashes n (chosen table) 0 crs (refuse_if (is_none (first_missed sets (crashed crs))) NoneUntouched (yields (record { endings = es; core = chosen (normal sets); stops = core_crashes (scenario n sets numbers crs) }))))
    (listeners_free (scenario n sets numbers crs) (table_accepted n sets table e).0 (λ d. get_or others (d - 1) 0) same))

-- ---- the numbers of core drives

-- 7 and 11 do not depend on the numbers
whole_other : (sets numbers others : List ℕ) (c : ReadList CrashList) {f : RunFile} → whole_run sets (said numbers c) ≡ yields f
    → ((said numbers c).file ≡ f) × (whole_run sets (said others c) ≡ yields (said others c).file)
unfolding whole_run untouched_left
whole_other sets numbers others c e =
    let ended = passed (not (is_empty c.rest)) TrailingBytes (untouched_left sets (said numbers c).file) e in
    let left = passed (is_none (first_missed sets (crashed c.list.crashes))) NoneUntouched (yields (said numbers c).file) ended.1 in
    (same_result left.1, rw (ended.0, left.0))

pub run_file_numbers : RunFileNumbers
unfolding RunFileNumbers read_run_file behind_numbers
run_file_numbers n sets ps rest fit f e =
    let found = first_result (chosen_core n sets) (λ k. read_behind n k sets (proposal_bytes ps ++ rest)) e in
    let given = core_given n sets found.1 in
    let read = first_result (says_all n (no_proposal n found.0) ps) _ (sym (file_read n found.0 sets ps rest fit) ∙ found.2) in
    let later = first_result (read_list (proposal_list n) read.0 rest) _ read.2 in
    let behind = first_result (read_list (crash_list n found.0) no_crash later.0.rest) _ later.2 in
    let numbers = ap (λ (x : RunFile). x.numbers) (whole_other sets later.0.list.numbers [] behind.0 behind.2).0 in
    let own = (said_own n given.0.high ps (no_proposal n found.0) (length-replicate n 0) read.1 (read_kept n read.0 rest later.1)).0 in
    subst (λ (k : ℕ). Own k f.numbers ps) (sym given.1) (subst (λ (l : List ℕ). Own found.0 l ps) numbers own)

-- ---- the run file, its exchange and its listing

pub files_before : FilesBefore
unfolding FilesBefore file_before records_before read_run_file behind_numbers read_list
files_before n sets s f e =
    let found = first_result (chosen_core n sets) (λ k. and_then (records_before n k s) (whole_run sets)) e in
    let given = core_given n sets found.1 in
    let read = first_result (records_before n core s) (whole_run sets) (ap (λ (k : ℕ). and_then (records_before n k s) (whole_run sets)) given.1 ∙ found.2) in
    let first = first_result (read_list (list_before n) [] s) _ read.1 in
    let second = first_result (read_list (crash_list n core) no_crash first.0.rest) _ first.2 in
    let within = (chosen_core_law n sets given.0).within in
    let still = still_read n core given.0.high within (length s) [] (no_proposal n core) s (alike_start n core given.0.high within) first.1 in
    let numbers = still.now_read.list.numbers in
    let whole = whole_other sets first.0.list numbers second.0 (ap (whole_run sets) (same_result second.2) ∙ read.2) in
    record {
      file = (said numbers second.0).file;
      reads =
          ap (λ (o : Outcome ℕ). and_then o (λ k. read_behind n k sets s)) (found.1 ∙ ap (λ (k : ℕ). yields k) (sym given.1))
          ∙ (behind_is n core sets s
          ∙ (ap (λ (o : Outcome (ReadList ProposalList)). and_then o (behind_records n core sets)) still.reads
          ∙ (ap (behind_numbers n core sets numbers) still.behind ∙ (ap (λ (o : Outcome (ReadList CrashList)). and_then o (λ c. whole_run sets (said numbers c))) second.1 ∙ whole.1))));
      crashes = ap (λ (x : RunFile). x.crashes) whole.0;
      numbers = λ d h. still.alike.same d h (omega (arith, still.whole, has_bounds n d core within h)) ∙ ap (λ (x : RunFile). get_or x.numbers (d - 1) 0) whole.0;
    }
  where
    core : ℕ
    core = chosen (normal sets)

pub exchanges_before : ExchangesBefore
unfolding ExchangesBefore FilesBefore ListenersUnused simulated_before simulated_with
exchanges_before n sets s f e =
    let still = files_before n sets s f e in
    ap (λ (o : Outcome RunFile). and_then o (λ g. simulated n sets g.numbers g.crashes)) still.reads
    ∙ (ap (simulated n sets still.file.numbers) still.crashes
    ∙ (listeners_unused n sets still.file.numbers f.numbers f.crashes still.numbers
    ∙ sym (ap (λ (o : Outcome RunFile). and_then o (λ g. simulated n sets g.numbers g.crashes)) e)))

pub listings_before : ListingsBefore
unfolding ListingsBefore ExchangesBefore run_program simulated_file
listings_before input t f e g =
    ap (λ (o : Outcome ReadTable). run_text (and_then o (λ x. simulated_with x.n x.sets x.rest))) e ∙ ap run_text (exchanges_before t.n t.sets t.rest f g)
