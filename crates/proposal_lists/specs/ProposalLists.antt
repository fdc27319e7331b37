-- The PR and PW records of a run file as bytes: one for each core drive, rising. A record of a listener, as old files
-- have it, is checked for its place and dropped. Reading finds the refusals from left to right.
use Rattle.std.specs.Prelude.{Bool, not, ◌&&◌, ◌||◌, cond, List, [], ◌∷◌, ◌++◌, map, ℕ, ◌-◌, ◌^◌, ◌<◌, eqb, leb, ltb, set, replicate}
use Rattle.drive_sets.specs.declared.Refusal.TheVariants.{DriveNumber}
use Rattle.drive_sets.specs.Masks.{has, single, minus, lowest}
use Rattle.drive_sets.specs.Refusals.{Outcome, yields, refuse_if, and_then}
use Rattle.records.specs.declared.Due.TheVariants.{AtProposal}
use Rattle.records.specs.declared.Kind.{Kind}
use Rattle.records.specs.declared.Kind.TheVariants.{Proposal, WideProposal}
use Rattle.records.specs.Fields.{field_at, to_bytes}
use Rattle.records.specs.Marks.{mark, Form, narrow, wide, width_in, number_width, is_due, kind_at}
use Rattle.records.specs.RecordLists.{ListFormat, ReadList, read_list}
use Rattle.runs.specs.CrashRecords.{is_next}
pub mod Laws

-- ---- PR and PW: drive, 1 byte; pattern number, 2 bytes in PR and 4 in PW

-- what was read so far: the pattern numbers by drive, drive 1 first; the drive of the last record, kept or dropped, 0
-- where there is none; and the core drives whose record is owed
pub record ProposalList : Type 0 where
  pub numbers : List ℕ
  pub last : ℕ
  pub owed : ℕ

-- at first each core drive's is owed; a listener's place keeps 0, which nobody learns
abbrev pub no_proposal : ℕ → ℕ → ProposalList
no_proposal n core = record { numbers = replicate n 0; last = 0; owed = core }

-- with one record more: a core drive's number is kept, a listener's dropped
unfoldable pub with_proposal : ProposalList → ℕ → ℕ → ProposalList
with_proposal l d number = record {
  numbers = cond (has d l.owed) (set l.numbers (d - 1) number) l.numbers;
  last = d;
  owed = minus l.owed (single d);
}

-- the drive and the number of the record at the start of the bytes
abbrev pub drive_at : List ℕ → ℕ
drive_at s = field_at 2 1 s

abbrev pub number_at : List ℕ → ℕ
number_at s = field_at 3 (number_width (kind_at s)) s

-- 8, a drive that is none of the frame or not above the last; 8, a drive above one whose record is owed
abbrev pub placed : ℕ → ProposalList → ℕ → ℕ → Outcome ProposalList
placed n l d number =
    refuse_if (not (is_next n l.last d)) DriveNumber
    (refuse_if (ltb (lowest l.owed) d) DriveNumber
    (yields (with_proposal l d number)))

unfoldable pub taken_proposal : ℕ → ProposalList → List ℕ → Outcome ProposalList
taken_proposal n l s = placed n l (drive_at s) (number_at s)

-- the records end where none is owed, and drive n has had its own or no PR or PW stands there
unfoldable pub proposals_end : ℕ → ℕ → ℕ → List ℕ → Bool
proposals_end n last owed s = eqb owed 0 && (leb n last || not (is_due AtProposal (kind_at s)))

-- EN is not due among them, so that they need no count
abbrev pub proposal_list : ℕ → ListFormat ProposalList
proposal_list n = record { due = λ l. AtProposal; count = λ l. 0; complete = λ l s. proposals_end n l.last l.owed s; taken = taken_proposal n }

-- of what is read the numbers, and the bytes behind the records
abbrev pub numbers_read : ReadList ProposalList → ReadList (List ℕ)
numbers_read p = record { list = p.list.numbers; rest = p.rest }

-- the numbers of the drives 1 to n, where this is the chosen core
unfoldable pub read_proposals : ℕ → ℕ → List ℕ → Outcome (ReadList (List ℕ))
read_proposals n core s = and_then (read_list (proposal_list n) (no_proposal n core) s) (λ p. yields (numbers_read p))

-- ---- as they are written

-- a record: the drive, and its number, narrow or wide
pub record ProposalRecord : Type 0 where
  pub drive : ℕ
  pub form : Form
  pub number : ℕ

unfoldable pub proposal_kind : Form → Kind
proposal_kind narrow = Proposal
proposal_kind wide = WideProposal

unfoldable pub proposal_bytes : List ProposalRecord → List ℕ
proposal_bytes [] = []
proposal_bytes (p ∷ ps) =
    to_bytes 2 (mark (proposal_kind p.form)) ++ ((to_bytes 1 p.drive ++ to_bytes (width_in p.form) p.number) ++ proposal_bytes ps)

abbrev pub record_drives : List ProposalRecord → List ℕ
record_drives ps = map (λ (p : ProposalRecord). p.drive) ps

abbrev pub record_numbers : List ProposalRecord → List ℕ
record_numbers ps = map (λ (p : ProposalRecord). p.number) ps

-- drives and numbers that fit their fields
abbrev pub RecordsFit : List ProposalRecord → Type 0
RecordsFit [] = Unit {0}
RecordsFit (p ∷ ps) = (p.drive < 256) × (p.number < 256 ^ width_in p.form) × RecordsFit ps
