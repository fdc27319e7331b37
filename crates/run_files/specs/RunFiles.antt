-- Run files as bytes: PR or PW for each core drive, rising, CR (none is fine), EN with the count of CR. Reading finds
-- the refusals from left to right.
use Rattle.std.specs.Prelude.{not, List, ℕ, is_none}
use Rattle.drive_sets.specs.declared.Refusal.TheVariants.{TrailingBytes, NoneUntouched}
use Rattle.drive_sets.specs.Refusals.{Outcome, yields, refuse_if, and_then}
use Rattle.survivor_tables.specs.Hitting.{first_missed}
use Rattle.records.specs.RecordLists.{ReadList, read_list}
use Rattle.survivor_tables.specs.Tables.{is_empty, chosen_core}
use Rattle.runs.specs.CrashRecords.{CrashRecord, crashed}
use Rattle.proposal_lists.specs.ProposalLists.{read_proposals}
use Rattle.crash_lists.specs.CrashLists.{CrashList, no_crash, crash_list}
pub mod Laws
pub mod Accepted

-- what a run file says: the pattern numbers, drive 1 first, with 0 for a listener, and the CR records
pub record RunFile : Type 0 where
  pub numbers : List ℕ
  pub crashes : List CrashRecord

-- ---- a run file: PR or PW.., CR.., EN

-- what is read: what the run file says, and the bytes after EN
pub record ReadRun : Type 0 where
  pub file : RunFile
  pub rest : List ℕ

-- of these numbers and the CR records behind them
abbrev pub said : List ℕ → ReadList CrashList → ReadRun
said numbers c = record { file = record { numbers = numbers; crashes = c.list.crashes }; rest = c.rest }

-- the records, with more behind them, which is handed back
unfoldable pub read_records : ℕ → ℕ → List ℕ → Outcome ReadRun
read_records n core s =
    and_then (read_proposals n core s) (λ p.
    and_then (read_list (crash_list n core) no_crash p.rest) (λ c.
    yields (said p.list c)))

-- 11, every survivor set has a drive with a CR: none is missed by these drives
unfoldable pub untouched_left : List ℕ → RunFile → Outcome RunFile
untouched_left sets f = refuse_if (is_none (first_missed sets (crashed f.crashes))) NoneUntouched (yields f)

-- a run file and nothing more: 7, then 11
unfoldable pub whole_run : List ℕ → ReadRun → Outcome RunFile
whole_run sets r = refuse_if (not (is_empty r.rest)) TrailingBytes (untouched_left sets r.file)

-- what stands behind these numbers: the CR records, then 7 and 11
unfoldable pub behind_numbers : ℕ → ℕ → List ℕ → List ℕ → List ℕ → Outcome RunFile
behind_numbers n core sets numbers s = and_then (read_list (crash_list n core) no_crash s) (λ c. whole_run sets (said numbers c))

-- the run file behind an accepted table of n drives with this chosen core and these survivor sets
unfoldable pub read_behind : ℕ → ℕ → List ℕ → List ℕ → Outcome RunFile
read_behind n core sets s = and_then (read_records n core s) (whole_run sets)

-- the run file reader, a call given n and sets: first the table's refusals, 3, 2, 5, 4, 13, then those of the file
unfoldable pub read_run_file : ℕ → List ℕ → List ℕ → Outcome RunFile
read_run_file n sets s = and_then (chosen_core n sets) (λ core. read_behind n core sets s)
