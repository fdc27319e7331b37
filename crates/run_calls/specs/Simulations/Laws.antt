-- No simulated exchange is refused with the number 0: so a reply has refusal 0 exactly where the call is accepted.
use Rattle.std.specs.Prelude.{refl, not, ℕ, ltb, is_none}
use mathlib.Core.List.{List, [], ◌∷◌}
use Rattle.drive_sets.specs.Counts.{is_round}
use Rattle.drive_sets.specs.Masks.{lowest}
use Rattle.drive_sets.specs.Refusals.{Outcome, yields}
use Rattle.drive_sets.specs.Refusals.Numbered.{Numbered, result_numbered, if_numbered, then_numbered}
use Rattle.survivor_tables.specs.Hitting.{first_missed}
use Rattle.records.specs.Fields.{field_at}
use Rattle.records.specs.RecordLists.{read_list}
use Rattle.survivor_tables.specs.Tables.{is_empty, chosen, normal_table, chosen_core}
use Rattle.runs.specs.CrashRecords.{CrashRecord, crashed, is_next, most_sends, checked_crash}
use Rattle.crash_lists.specs.CrashLists.{crash_fields, CrashList, no_crash, taken_crash, crash_list}
use Rattle.proposal_lists.specs.ProposalLists.{ProposalList, no_proposal, taken_proposal, proposal_list, read_proposals}
use Rattle.run_files.specs.RunFiles.{read_records, untouched_left, whole_run, read_behind, read_run_file}
use Rattle.simulation.specs.Simulation.{checked_crashes, unless_touched, simulated}
use Rattle.run_listing.specs.RunListing.{simulated_with}
use Rattle.records.specs.RecordLists.Numbered.{list_numbered}
use Rattle.survivor_tables.specs.Tables.Numbered.{normal_numbered}

-- ---- the scenario

crash_numbered : (n core last : ℕ) (c : CrashRecord) → Numbered (checked_crash n core last c)
unfolding checked_crash
crash_numbered n core last c =
    if_numbered (not (is_next n last c.drive)) 8 refl
    (if_numbered (not (is_round core c.round)) 9 refl
    (if_numbered (ltb (most_sends n core c.drive) c.sends) 10 refl
    result_numbered))

module _ {A : Type 0} where
  crashes_numbered : (n core last : ℕ) (crs : List CrashRecord) (next : Outcome A) → Numbered next → Numbered (checked_crashes n core last crs next)
  unfolding checked_crashes
  crashes_numbered n core last [] next h = h
  crashes_numbered n core last (c ∷ cs) next h =
      then_numbered (checked_crash n core last c) _ (crash_numbered n core last c) (λ passed. crashes_numbered n core c.drive cs next h)

pub simulated_numbered : (n : ℕ) (sets numbers : List ℕ) (crs : List CrashRecord) → Numbered (simulated n sets numbers crs)
unfolding simulated
simulated_numbered n sets numbers crs =
    then_numbered (normal_table n sets) _ (normal_numbered n sets)
    (λ table. crashes_numbered n (chosen table) 0 crs (unless_touched n sets numbers crs) (if_numbered (is_none (first_missed sets (crashed crs))) 11 refl result_numbered))

-- ---- the run file

proposal_numbered : (n : ℕ) (l : ProposalList) (s : List ℕ) → Numbered (taken_proposal n l s)
unfolding taken_proposal
proposal_numbered n l s =
    if_numbered (not (is_next n l.last (field_at 2 1 s))) 8 refl
    (if_numbered (ltb (lowest l.owed) (field_at 2 1 s)) 8 refl
    result_numbered)

listed_numbered : (n core : ℕ) (l : CrashList) (s : List ℕ) → Numbered (taken_crash n core l s)
unfolding taken_crash
listed_numbered n core l s =
    then_numbered (checked_crash n core l.last (crash_fields s)) _ (crash_numbered n core l.last (crash_fields s)) (λ c. result_numbered)

records_numbered : (n core : ℕ) (s : List ℕ) → Numbered (read_records n core s)
unfolding read_records read_proposals
records_numbered n core s =
    then_numbered (read_proposals n core s) _
    (then_numbered (read_list (proposal_list n) (no_proposal n core) s) _ (list_numbered (proposal_list n) (proposal_numbered n) (no_proposal n core) s) (λ p. result_numbered))
    (λ p. then_numbered (read_list (crash_list n core) no_crash p.rest) _ (list_numbered (crash_list n core) (listed_numbered n core) no_crash p.rest) (λ c. result_numbered))

file_numbered : (n : ℕ) (sets s : List ℕ) → Numbered (read_run_file n sets s)
unfolding read_run_file chosen_core read_behind whole_run untouched_left
file_numbered n sets s =
    then_numbered (chosen_core n sets) _
    (then_numbered (normal_table n sets) (λ table. yields (chosen table)) (normal_numbered n sets) (λ table. result_numbered))
    (λ core. then_numbered (read_records n core s) (whole_run sets) (records_numbered n core s)
    (λ r. if_numbered (not (is_empty r.rest)) 7 refl (if_numbered (is_none (first_missed sets (crashed r.file.crashes))) 11 refl result_numbered)))

pub with_file_numbered : (n : ℕ) (sets run : List ℕ) → Numbered (simulated_with n sets run)
unfolding simulated_with
with_file_numbered n sets run =
    then_numbered (read_run_file n sets run) _ (file_numbered n sets run) (λ f. simulated_numbered n sets f.numbers f.crashes)
