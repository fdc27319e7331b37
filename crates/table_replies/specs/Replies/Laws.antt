-- No reader's call is refused with the number 0: so a reply has refusal 0 exactly where the call is accepted.
use Rattle.std.specs.Prelude.{◌≡◌, refl, not, List, [], ℕ, leb, length, drop}
use Rattle.drive_sets.specs.Lent.{fitting}
use Rattle.drive_sets.specs.Lent.Laws.{fitting_numbered}
use Rattle.drive_sets.specs.Limits.{max_sets}
use Rattle.drive_sets.specs.Refusals.{Outcome, refused, yields}
use Rattle.drive_sets.specs.Refusals.Numbered.{Numbered, result_numbered, if_numbered, then_numbered}
use Rattle.records.specs.declared.Due.TheVariants.{AtRecord}
use Rattle.records.specs.declared.Kind.TheVariants.{Frame}
use Rattle.records.specs.Fields.{field_at}
use Rattle.records.specs.Marks.{head_of}
use Rattle.records.specs.RecordLists.{read_list}
use Rattle.records.specs.RecordLists.Numbered.{record_numbered, list_numbered}
use Rattle.survivor_tables.specs.declared.frames.MaskKind.{MaskKind}
use Rattle.survivor_tables.specs.declared.frames.MaskKind.TheVariants.{SurvivorSet}
use Rattle.survivor_tables.specs.Tables.{is_frame, is_empty, within_core_limit, checked_mask}
use Rattle.survivor_tables.specs.Tables.Numbered.{limit_numbered, mask_numbered}
use Rattle.table_files.specs.Files.{ReadTable, taken_mask, mask_list, listed_table, read_listed, read_all, accepted, read_table, read_whole}
use Rattle.c_replies.specs.Replies.{refusal_of}
use Rattle.table_replies.specs.Replies.{fitting_table, table_reply}

-- ---- a reply's refusal is the outcome's

pub table_refusal : (s : List ℕ) (o : Outcome ReadTable) → (table_reply s o).refusal ≡ refusal_of o
table_refusal s (refused r) = refl
table_refusal s (yields t) = refl

-- ---- the readers

taken_numbered : (kind : MaskKind) (n : ℕ) (listed s : List ℕ) → Numbered (taken_mask kind n listed s)
unfolding taken_mask
taken_numbered kind n listed s =
    if_numbered (leb max_sets (length listed)) 5 refl (then_numbered (checked_mask kind n (field_at 2 8 s)) _ (mask_numbered kind n (field_at 2 8 s)) (λ m. result_numbered))

listed_numbered : (kind : MaskKind) (s : List ℕ) → Numbered (read_listed kind s)
unfolding read_listed
listed_numbered kind s =
    let n = field_at 2 1 s in
    record_numbered (head_of (AtRecord Frame) s) _ (λ frame. if_numbered (not (is_frame n)) 3 refl
    (then_numbered (read_list (mask_list kind n) [] (drop 3 s)) (λ l. yields (listed_table n l)) (list_numbered (mask_list kind n) (taken_numbered kind n) [] (drop 3 s)) (λ l. result_numbered)))

-- a list and nothing more
pub all_numbered : (kind : MaskKind) (finish : ReadTable → Outcome ReadTable) → ((t : ReadTable) → Numbered (finish t)) → (s : List ℕ) → Numbered (read_all kind finish s)
all_numbered kind finish each s =
    then_numbered (read_listed kind s) _ (listed_numbered kind s) (λ t. if_numbered (not (is_empty t.rest)) 7 refl (each t))

accepted_numbered : (t : ReadTable) → Numbered (accepted t)
unfolding accepted
accepted_numbered t = then_numbered (within_core_limit t.sets) _ (limit_numbered t.sets) (λ table. result_numbered)

pub table_numbered : (old : List ℕ) (o : Outcome ReadTable) → Numbered o → Numbered (fitting_table old o)
unfolding fitting_table
table_numbered old o h =
    then_numbered o _ h (λ t. then_numbered (fitting 0 (length old) t.sets) (λ sets. yields t) (fitting_numbered 0 (length old) t.sets) (λ sets. result_numbered))

pub read_numbered : (s old : List ℕ) → Numbered (fitting_table old (read_table s))
unfolding read_table
read_numbered s old = table_numbered old (read_table s) (then_numbered (read_listed SurvivorSet s) accepted (listed_numbered SurvivorSet s) accepted_numbered)

pub whole_numbered : (s old : List ℕ) → Numbered (fitting_table old (read_whole s))
unfolding read_whole
whole_numbered s old = table_numbered old (read_whole s) (all_numbered SurvivorSet accepted accepted_numbered s)
