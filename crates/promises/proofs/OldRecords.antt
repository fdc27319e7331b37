-- Old records beside new ones: a message's bytes give the message in both forms, and what the records of a run file say
-- depends on their drives and numbers alone.
use mathlib.Core.Path.{◌≡◌, sym, ap, ◌∙◌}
use mathlib.Core.List.{List, ◌++◌}
use Prim.Native.Nat.{ℕ}
use Rattle.drive_sets.specs.declared.Refusal.TheVariants.{BrokenState, Halted}
use Rattle.drive_sets.specs.Refusals.{Outcome, refuse_if, and_then}
use Rattle.drive_sets.specs.Refusals.Laws.{then_same}
use Rattle.survivor_tables.specs.Order.{normal}
use Rattle.survivor_tables.specs.Tables.{chosen_core}
use Rattle.drive_states.specs.State.{broken}
use Rattle.drive_states.specs.Messages.{Message}
use Rattle.drive_states.specs.Messages.Laws.{fits_written, read_back, narrow_as_wide}
use Rattle.agreement.specs.Calls.{admitting, receiving}
use Rattle.table_files.specs.Files.{ReadTable, table_bytes}
use Rattle.table_files.specs.Files.Laws.{read_any}
use Rattle.proposal_lists.specs.ProposalLists.{ProposalList, no_proposal, proposal_bytes}
use Rattle.run_files.specs.RunFiles.{RunFile, read_run_file}
use Rattle.run_files.specs.RunFiles.Laws.{read_on}
use Rattle.simulation.specs.Simulation.{simulated}
use Rattle.run_listing.specs.RunListing.{run_text, simulated_with, simulated_file, run_program}
use Rattle.promises.specs.OldRecords.{MessageReadsBack, OldMessages, OldRunFiles, OldListings}
use Rattle.promises.proofs.ProposalsWritten.{says_same, file_read}

-- ---- messages

pub message_reads_back : MessageReadsBack
unfolding MessageReadsBack
message_reads_back n form m h drive right = read_back n form m (fits_written form m h) drive right

pub old_messages : OldMessages
unfolding OldMessages receiving
old_messages x m h =
    ap (λ (o : Outcome Message). refuse_if (broken x) BrokenState (refuse_if x.halted Halted (and_then o (admitting x)))) (narrow_as_wide x.n m h)

-- ---- run files

pub old_run_files : OldRunFiles
unfolding OldRunFiles read_run_file
old_run_files n sets ps qs rest drives numbers fit fit' =
    then_same (chosen_core n sets) (λ core e.
    file_read n core sets ps rest fit
    ∙ (ap (λ (o : Outcome ProposalList). and_then o (λ t. read_on n core sets t rest)) (says_same n ps qs (no_proposal n core) drives numbers)
    ∙ sym (file_read n core sets qs rest fit')))

pub old_listings : OldListings
unfolding OldListings OldRunFiles run_program simulated_file simulated_with
old_listings n sets a ps qs rest drives numbers fit fit' =
    printed (proposal_bytes ps ++ rest)
    ∙ (ap (λ (o : Outcome RunFile). run_text (and_then o (λ f. simulated n (normal sets) f.numbers f.crashes))) (old_run_files n (normal sets) ps qs rest drives numbers fit fit')
    ∙ sym (printed (proposal_bytes qs ++ rest)))
  where
    printed : (run : List ℕ)
        → run_program (table_bytes n sets ++ run) ≡ run_text (and_then (read_run_file n (normal sets) run) (λ f. simulated n (normal sets) f.numbers f.crashes))
    printed run = ap (λ (o : Outcome ReadTable). run_text (and_then o (λ t. simulated_with t.n t.sets t.rest))) (read_any n sets run a)
