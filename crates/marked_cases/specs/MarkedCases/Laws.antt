-- The marked cases, by computation: one statement that the definitions give the text of every case.
use Rattle.std.specs.Prelude.{refl}
use Rattle.std.proofs.Math.Option.{or_else}
use Rattle.std.specs.Int.Count.{count_trailing_zeros}
use Rattle.drive_sets.specs.Lists.{elem, first_failing, first_some}
use Rattle.drive_sets.specs.Masks.{outside, lowest, of_drives}
use Rattle.survivor_tables.specs.Tables.{checked_mask, each_mask, checked_masks, chosen_core}
use Rattle.records.specs.RecordLists.{next_of, step_of, read_from, read_list}
use Rattle.table_files.specs.Files.{record_of, due_after, taken_mask, read_listed, accepted, read_table, read_whole}
use Rattle.verdict_search.specs.Verdicts.{first_with, disjoint, blocks_of, verdict_on}
use Rattle.verdicts.specs.Calls.{judged, verdict_given}
use Rattle.splits.specs.Splits.{with_move, moved, moves, fill_empty}
use Rattle.agreement.specs.Calls.Evaluated.{evaluated}
use Rattle.sync_crash.specs.Rounds.{start, smallest_of, sends, reaches, adds, known, announces, announced, heard, unchanged, stable, if_stable, decides, halts, closes, closed, step, after}
use Rattle.runs.specs.Scenario.{frame, core_of, gone_by, has_crash}
use Rattle.agreement.specs.Sends.{list_of, cut, reach}
use Rattle.runs.specs.CrashRecords.{crashed, is_next, most_sends, checked_crash, crash_in, scenario}
use Rattle.drive_sets.specs.Counts.{is_round}
use Rattle.runs.specs.Statement.{core_crashes}
use Rattle.agreement.specs.RoundEndings.{ending_after, ending_from, ending_of, endings}
use Rattle.crash_lists.specs.CrashLists.{crash_fields, taken_crash}
use Rattle.proposal_lists.specs.ProposalLists.{with_proposal, taken_proposal, proposals_end, read_proposals}
use Rattle.run_files.specs.RunFiles.{read_records, untouched_left, whole_run, read_behind, read_run_file}
use Rattle.simulation.specs.Simulation.{checked_crashes, simulated}
use Rattle.text.specs.Text.{digit, in_base, digits, joined, field, fields, named, line, lines, refusal_line}
use Rattle.verdict_lines.specs.VerdictLines.{no_part, verdict_part, verdict_line, verdict_lines}
use Rattle.table_listing.specs.TableListing.{listing, table_program}
use Rattle.run_listing.specs.RunListing.{ending_text, drive_line, ending_lines, core_line, simulated_with, simulated_file, run_program}
use Rattle.marked_cases.specs.MarkedCases.{AllGiven, sv, file_a, file_c, file_h, file_i, prs, cr, on_a, file_j, run_j, marked}

pub marked_cases : AllGiven marked
unfolding marked sv file_a file_c file_h file_i prs cr on_a file_j run_j evaluated or_else elem first_some outside count_trailing_zeros lowest of_drives first_failing checked_mask each_mask checked_masks chosen_core record_of due_after taken_mask next_of step_of read_from read_list read_listed accepted read_table read_whole first_with disjoint blocks_of with_move moved moves fill_empty verdict_on judged verdict_given start smallest_of sends reaches adds known announces announced heard unchanged stable if_stable decides halts closes closed step after frame core_of gone_by has_crash list_of cut reach crashed is_next is_round most_sends checked_crash crash_in scenario core_crashes ending_after ending_from ending_of endings with_proposal taken_proposal proposals_end read_proposals crash_fields taken_crash read_records untouched_left whole_run read_behind read_run_file checked_crashes simulated digit in_base digits joined field fields named line lines refusal_line no_part verdict_part verdict_line verdict_lines listing table_program ending_text drive_line ending_lines core_line simulated_with simulated_file run_program
marked_cases = (refl, (refl, (refl, (refl, (refl, (refl, (refl, (refl, (refl, (refl, (refl, tt)))))))))))
