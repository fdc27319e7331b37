-- Proposals of listeners are retired. Document 02: "New run files carry PR or PW only for core drives, rising. Any
-- record for a listener, as in old files, is checked for its place in the rising order (8 if not above the last) and
-- then dropped, so no accepted old run file's listing changes by this request. A core drive without its record meets 2
-- when CR or EN stands there, and 8 when a later drive's record does."
use Rattle.std.specs.Prelude.{◌≡◌, true, false, not, ◌&&◌, List, [], ◌∷◌, ◌++◌, ℕ, suc, ◌-◌, ◌≤◌, ◌<◌, eqb, leb, ltb, length, get_or}
use Rattle.drive_sets.specs.declared.Refusal.TheVariants.{WrongMark, DriveNumber}
use Rattle.drive_sets.specs.Counts.{is_drive}
use Rattle.drive_sets.specs.Lists.{all, elem, ordered}
use Rattle.drive_sets.specs.Masks.{has}
use Rattle.drive_sets.specs.Refusals.{Outcome, refused, yields, refuse_if, and_then, number}
use Rattle.records.specs.declared.Due.TheVariants.{AtProposal}
use Rattle.records.specs.Fields.{field_at}
use Rattle.records.specs.Marks.{number_width, is_due, kind_at}
use Rattle.records.specs.RecordLists.{ListFormat, read_list}
use Rattle.survivor_tables.specs.Order.{normal}
use Rattle.survivor_tables.specs.Tables.{chosen, chosen_core, Accepted}
use Rattle.table_files.specs.Files.{ReadTable, read_table}
use Rattle.runs.specs.CrashRecords.{CrashRecord}
use Rattle.crash_lists.specs.CrashLists.{no_crash, crash_list}
use Rattle.proposal_lists.specs.ProposalLists.{ProposalRecord, proposal_bytes, record_drives, RecordsFit}
use Rattle.run_files.specs.RunFiles.{RunFile, ReadRun, said, whole_run, behind_numbers, read_run_file}
use Rattle.simulation.specs.Simulation.{Simulated, simulated}
use Rattle.run_listing.specs.RunListing.{run_text, simulated_with, run_program}

-- ---- the simulated exchange: what stands for a listener changes nothing, whatever the table and the CR records are

unfoldable pub ListenersUnused : Type 0
ListenersUnused = (n : ℕ) (sets numbers others : List ℕ) (crs : List CrashRecord)
    → ((d : ℕ) → has d (chosen (normal sets)) ≡ true → get_or numbers (d - 1) 0 ≡ get_or others (d - 1) 0) → simulated n sets numbers crs ≡ simulated n sets others crs

-- ---- the numbers of core drives

-- a core drive's number is that of its record
abbrev pub Own : ℕ → List ℕ → List ProposalRecord → Type 0
Own core numbers [] = Unit {0}
Own core numbers (p ∷ ps) = (has p.drive core ≡ true → get_or numbers (p.drive - 1) 0 ≡ p.number) × Own core numbers ps

-- so it is in every file that is accepted, whatever stands behind the records
unfoldable pub RunFileNumbers : Type 0
RunFileNumbers = (n : ℕ) (sets : List ℕ) (ps : List ProposalRecord) (rest : List ℕ) → RecordsFit ps
    → (f : RunFile) → read_run_file n sets (proposal_bytes ps ++ rest) ≡ yields f → Own (chosen (normal sets)) f.numbers ps

-- ---- new files: a record for each core drive, rising, and for any listeners between them

-- records of drives below c in their places, with each core drive's
pub record InPlace (n core c : ℕ) (ps : List ProposalRecord) : Type 0 where
  pub rising : ordered ltb (record_drives ps) ≡ true
  pub in_frame : all (λ d. is_drive n d && ltb d c) (record_drives ps) ≡ true
  pub every_core : (d : ℕ) → has d core ≡ true → d < c → elem d (record_drives ps) ≡ true

-- where no record is missing they are read, with the numbers of the core drives, and what stands behind them decides
pub record CoreNumbers (n : ℕ) (sets : List ℕ) (ps : List ProposalRecord) : Type 0 where
  pub numbers : List ℕ
  pub own : Own (chosen (normal sets)) numbers ps
  pub reads : (rest : List ℕ) → is_due AtProposal (kind_at rest) ≡ false → read_run_file n sets (proposal_bytes ps ++ rest) ≡ behind_numbers n (chosen (normal sets)) sets numbers rest

unfoldable pub NewRunFiles : Type 0
NewRunFiles = (n : ℕ) (sets : List ℕ) → Accepted n sets → (ps : List ProposalRecord) → RecordsFit ps → InPlace n (chosen (normal sets)) (suc n) ps → CoreNumbers n sets ps

-- where core drive c's is missing: 2 when a mark other than PR and PW stands there, such as CR or EN, and 8 when a
-- later drive's record does, whatever stands behind it
pub record Missing (n : ℕ) (sets : List ℕ) (c : ℕ) (ps : List ProposalRecord) : Type 0 where
  pub mark : (rest : List ℕ) → 2 ≤ length rest → is_due AtProposal (kind_at rest) ≡ false → read_run_file n sets (proposal_bytes ps ++ rest) ≡ refused (number WrongMark)
  pub later : (p : ProposalRecord) → RecordsFit (p ∷ []) → c < p.drive → (rest : List ℕ) → read_run_file n sets (proposal_bytes ps ++ (proposal_bytes (p ∷ []) ++ rest)) ≡ refused (number DriveNumber)

unfoldable pub MissingRecords : Type 0
MissingRecords = (n : ℕ) (sets : List ℕ) → Accepted n sets → (c : ℕ) → has c (chosen (normal sets)) ≡ true
    → (ps : List ProposalRecord) → RecordsFit ps → InPlace n (chosen (normal sets)) c ps → Missing n sets c ps

-- where drive n has had none, a record of no drive of the frame or not above all before it meets 8, whatever stands
-- behind it
unfoldable pub OutOfOrder : Type 0
OutOfOrder = (n : ℕ) (sets : List ℕ) → Accepted n sets → (c : ℕ) (ps : List ProposalRecord) → RecordsFit ps → InPlace n (chosen (normal sets)) c ps → elem n (record_drives ps) ≡ false
    → (p : ProposalRecord) → RecordsFit (p ∷ []) → (is_drive n p.drive && all (λ d. ltb d p.drive) (record_drives ps)) ≡ false
    → (rest : List ℕ) → read_run_file n sets (proposal_bytes ps ++ (proposal_bytes (p ∷ []) ++ rest)) ≡ refused (number DriveNumber)

-- ---- old files: as they were read before, with a record for each drive 1 to n in order

-- 8, a drive that is not the next
unfoldable pub taken_before : List ℕ → List ℕ → Outcome (List ℕ)
taken_before given s =
    refuse_if (not (eqb (field_at 2 1 s) (suc (length given)))) DriveNumber
    (yields (given ++ (field_at 3 (number_width (kind_at s)) s ∷ [])))

abbrev pub list_before : ℕ → ListFormat (List ℕ)
list_before n = record { due = λ given. AtProposal; count = length; complete = λ given s. leb n (length given); taken = taken_before }

-- the records, and the file, which have changed in nothing else
unfoldable pub records_before : ℕ → ℕ → List ℕ → Outcome ReadRun
records_before n core s =
    and_then (read_list (list_before n) [] s) (λ p.
    and_then (read_list (crash_list n core) no_crash p.rest) (λ c.
    yields (said p.list c)))

unfoldable pub file_before : ℕ → List ℕ → List ℕ → Outcome RunFile
file_before n sets s = and_then (chosen_core n sets) (λ core. and_then (records_before n core s) (whole_run sets))

unfoldable pub simulated_before : ℕ → List ℕ → List ℕ → Outcome Simulated
simulated_before n sets s = and_then (file_before n sets s) (λ f. simulated n sets f.numbers f.crashes)

-- a file that was accepted is accepted, with the same CR records and the same numbers of core drives
pub record AcceptedStill (n : ℕ) (sets s : List ℕ) (f : RunFile) : Type 0 where
  pub file : RunFile
  pub reads : read_run_file n sets s ≡ yields file
  pub crashes : file.crashes ≡ f.crashes
  pub numbers : (d : ℕ) → has d (chosen (normal sets)) ≡ true → get_or file.numbers (d - 1) 0 ≡ get_or f.numbers (d - 1) 0

unfoldable pub FilesBefore : Type 0
FilesBefore = (n : ℕ) (sets s : List ℕ) (f : RunFile) → file_before n sets s ≡ yields f → AcceptedStill n sets s f

-- so its simulated exchange is what it was, and so is what the run program prints of it behind any table
unfoldable pub ExchangesBefore : Type 0
ExchangesBefore = (n : ℕ) (sets s : List ℕ) (f : RunFile) → file_before n sets s ≡ yields f → simulated_with n sets s ≡ simulated_before n sets s

unfoldable pub ListingsBefore : Type 0
ListingsBefore = (input : List ℕ) (t : ReadTable) (f : RunFile) → read_table input ≡ yields t → file_before t.n t.sets t.rest ≡ yields f
    → run_program input ≡ run_text (simulated_before t.n t.sets t.rest)
