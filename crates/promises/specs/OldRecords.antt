-- Old records beside new ones. Document 02: "Old records are still read, also mixed with new ones, each number keeping
-- its value."
use Rattle.std.specs.Prelude.{◌≡◌, true, false, List, ◌++◌, ℕ}
use Rattle.drive_sets.specs.Counts.{is_drive}
use Rattle.drive_sets.specs.Refusals.{yields}
use Rattle.records.specs.Marks.{Form, narrow, wide}
use Rattle.drive_states.specs.declared.Exchange.{Exchange}
use Rattle.drive_states.specs.Messages.{Message, Fits, bytes_in, wrong_mask, read_message}
use Rattle.agreement.specs.Calls.{receiving}
use Rattle.survivor_tables.specs.Tables.{Accepted}
use Rattle.table_files.specs.Files.{table_bytes}
use Rattle.proposal_lists.specs.ProposalLists.{ProposalRecord, proposal_bytes, record_drives, record_numbers, RecordsFit}
use Rattle.run_files.specs.RunFiles.{read_run_file}
use Rattle.run_listing.specs.RunListing.{run_program}

-- ---- messages

-- a message is read back from its bytes, with narrow or wide numbers
unfoldable pub MessageReadsBack : Type 0
MessageReadsBack = (n : ℕ) (form : Form) (m : Message) → Fits form m
    → is_drive n m.sender ≡ true → wrong_mask n m.sender m.content ≡ false → read_message n (bytes_in form m) ≡ yields m

-- in every state the message call gives for a KN or DC what it gives for the KW or DW with the same numbers
unfoldable pub OldMessages : Type 0
OldMessages = (x : Exchange) (m : Message) → Fits narrow m → receiving x (bytes_in narrow m) ≡ receiving x (bytes_in wide m)

-- ---- run files: PR and PW of any drives, and anything behind them

-- which of them are PR and which PW changes nothing
unfoldable pub OldRunFiles : Type 0
OldRunFiles = (n : ℕ) (sets : List ℕ) (ps qs : List ProposalRecord) (rest : List ℕ) → record_drives ps ≡ record_drives qs → record_numbers ps ≡ record_numbers qs → RecordsFit ps → RecordsFit qs
    → read_run_file n sets (proposal_bytes ps ++ rest) ≡ read_run_file n sets (proposal_bytes qs ++ rest)

-- and neither what the run program prints of it behind a table, whatever the order of its sets
unfoldable pub OldListings : Type 0
OldListings = (n : ℕ) (sets : List ℕ) → Accepted n sets → (ps qs : List ProposalRecord) (rest : List ℕ)
    → record_drives ps ≡ record_drives qs → record_numbers ps ≡ record_numbers qs → RecordsFit ps → RecordsFit qs
    → run_program (table_bytes n sets ++ (proposal_bytes ps ++ rest)) ≡ run_program (table_bytes n sets ++ (proposal_bytes qs ++ rest))
