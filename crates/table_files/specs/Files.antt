-- Lists of masks as bytes: FR with n, 1 to 128 records with a mask, EN with their count. The records are SV in a table
-- and FL in a fault list. Reading finds the refusals from left to right; writing writes the normal form.
use Rattle.std.specs.Prelude.{false, not, List, [], ◌∷◌, ◌++◌, ℕ, zero, suc, leb, length, drop}
use Rattle.drive_sets.specs.declared.Refusal.TheVariants.{FrameSize, TooManySets, TrailingBytes}
use Rattle.drive_sets.specs.Refusals.{Outcome, yields, refuse_if, and_then}
use Rattle.records.specs.declared.Kind.{Kind}
use Rattle.records.specs.declared.Kind.TheVariants.{Frame, Survivor, Fault, End}
use Rattle.records.specs.declared.Due.{Due}
use Rattle.records.specs.declared.Due.TheVariants.{AtRecord, AtRecordOrEnd}
use Rattle.records.specs.Fields.{field_at}
use Rattle.records.specs.Marks.{mark, head_of, record_bytes}
use Rattle.records.specs.RecordLists.{at_record, ListFormat, ReadList, read_list, list_bytes}
use Rattle.drive_sets.specs.Limits.{max_sets}
use Rattle.survivor_tables.specs.declared.frames.MaskKind.{MaskKind}
use Rattle.survivor_tables.specs.declared.frames.MaskKind.TheVariants.{SurvivorSet, FaultGroup}
use Rattle.survivor_tables.specs.Tables.{is_frame, is_empty, within_core_limit, checked_mask}
pub mod Laws
pub mod Rest
pub mod Prefixes

-- what is read: the drives, the masks, and the bytes after EN
pub record ReadTable : Type 0 where
  pub n : ℕ
  pub sets : List ℕ
  pub rest : List ℕ

-- which records the masks stand in
unfoldable pub record_of : MaskKind → Kind
record_of SurvivorSet = Survivor
record_of FaultGroup = Fault

-- after FR one of them is due, and after one another or the end
unfoldable pub due_after : MaskKind → ℕ → Due
due_after kind zero = AtRecord (record_of kind)
due_after kind (suc count) = AtRecordOrEnd (record_of kind)

-- SV or FL: mask, 8 bytes; a 129th meets 5, then what the mask meets
unfoldable pub taken_mask : MaskKind → ℕ → List ℕ → List ℕ → Outcome (List ℕ)
taken_mask kind n listed s =
    refuse_if (leb max_sets (length listed)) TooManySets
    (and_then (checked_mask kind n (field_at 2 8 s)) (λ m. yields (listed ++ (m ∷ []))))

-- the records after FR, with the masks listed so far
abbrev pub mask_list : MaskKind → ℕ → ListFormat (List ℕ)
mask_list kind n = record { due = λ listed. due_after kind (length listed); count = length; complete = λ listed s. false; taken = taken_mask kind n }

abbrev pub listed_table : ℕ → ReadList (List ℕ) → ReadTable
listed_table n l = record { n = n; sets = l.list; rest = l.rest }

-- the masks as listed
unfoldable pub read_listed : MaskKind → List ℕ → Outcome ReadTable
read_listed kind s =
    let n = field_at 2 1 s in
    let masks = and_then (read_list (mask_list kind n) [] (drop 3 s)) (λ l. yields (listed_table n l)) in
    at_record (head_of (AtRecord Frame) s) (λ frame. refuse_if (not (is_frame n)) FrameSize masks)

-- a list and nothing more, and what is made of it: bytes after the end meet 7
abbrev pub read_all : MaskKind → (ReadTable → Outcome ReadTable) → List ℕ → Outcome ReadTable
read_all kind finish s = and_then (read_listed kind s) (λ t. refuse_if (not (is_empty t.rest)) TrailingBytes (finish t))

-- ---- tables

-- the normal table, 13 coming last
unfoldable pub accepted : ReadTable → Outcome ReadTable
accepted t = and_then (within_core_limit t.sets) (λ table. yields (record { n = t.n; sets = table; rest = t.rest }))

-- a table with more behind it, which is handed back
unfoldable pub read_table : List ℕ → Outcome ReadTable
read_table s = and_then (read_listed SurvivorSet s) accepted

-- a table and nothing more
unfoldable pub read_whole : List ℕ → Outcome ReadTable
read_whole s = read_all SurvivorSet accepted s

-- ---- writing

unfoldable pub file_bytes : MaskKind → ℕ → List ℕ → List ℕ
file_bytes kind n masks = record_bytes (mark Frame) 1 n ++ (list_bytes (record_of kind) masks ++ record_bytes (mark End) 1 (length masks))

abbrev pub table_bytes : ℕ → List ℕ → List ℕ
table_bytes = file_bytes SurvivorSet
