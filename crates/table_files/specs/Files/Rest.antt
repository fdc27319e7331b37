-- What a reader hands back is the end of the bytes that it was given: so bytes stay bytes.
use Rattle.std.specs.Prelude.{◌≡◌, true, not, List, [], length, get_or, drop}
use Rattle.std.proofs.Common.{sym, ap, ◌∙◌, subst, get_or-drop, drop-drop}
use Rattle.std.proofs.Math.Option.{Option, none, some}
use Prim.Native.Nat.{ℕ, zero, suc, ◌+◌, ◌<◌}
use Rattle.drive_sets.specs.Bools.Laws.{by_test, cond_false}
use Rattle.drive_sets.specs.declared.Refusal.TheVariants.{FrameSize}
use Rattle.drive_sets.specs.Refusals.{Outcome, yields, and_then}
use Rattle.drive_sets.specs.Refusals.Laws.{refused_no_result, same_result, passed, first_result}
use Rattle.records.specs.declared.Due.TheVariants.{AtRecord}
use Rattle.records.specs.declared.Kind.TheVariants.{Frame}
use Rattle.records.specs.Fields.{field_at, Bytes}
use Rattle.records.specs.Marks.{width_at, head_of}
use Rattle.records.specs.RecordLists.{ListFormat, ReadList, step_of, following, read_from, read_list}
use Rattle.records.specs.RecordLists.Laws.{record_there, read_complete_law}
use Rattle.survivor_tables.specs.declared.frames.MaskKind.{MaskKind}
use Rattle.survivor_tables.specs.declared.frames.MaskKind.TheVariants.{SurvivorSet}
use Rattle.survivor_tables.specs.Tables.{is_frame, within_core_limit}
use Rattle.table_files.specs.Files.{ReadTable, mask_list, listed_table, read_listed, accepted, read_table}

-- ---- a list of records

module _ {S : Type 0} (f : ListFormat S) where
  -- the bytes that are left are those behind some
  abbrev Behind : List ℕ → ReadList S → Type 0
  Behind s r = (k : ℕ) × (r.rest ≡ drop k s)

  complete_rest : (bytes : ℕ) (state : S) (s : List ℕ) {r : ReadList S} → read_from f bytes state s ≡ yields r → f.complete state s ≡ true → Behind s r
  complete_rest bytes state s e t = (0, ap (λ (r : ReadList S). r.rest) (same_result (sym e ∙ read_complete_law f bytes state s t)))

  step_rest : (state : S) (s : List ℕ) {r : ReadList S} (later : S → List ℕ → Outcome (ReadList S))
      → ((t : S) → later t (drop (width_at s) s) ≡ yields r → Behind (drop (width_at s) s) r)
      → (o : Option S) → following f later state s o ≡ yields r → Behind s r
  step_rest state s later more none e = (3, ap (λ (r : ReadList S). r.rest) (sym (same_result e)))
  step_rest state s later more (some t) e = let w = more t e in (width_at s + w.0, w.1 ∙ drop-drop w.0 (width_at s) s)

  list_rest : (bytes : ℕ) (state : S) (s : List ℕ) {r : ReadList S} → read_from f bytes state s ≡ yields r → Behind s r
  unfolding read_from
  list_rest zero state s e =
      by_test (f.complete state s) (complete_rest zero state s e) (λ t. absurd (refused_no_result (sym (cond_false _ _ t) ∙ e)))
  list_rest (suc bytes) state s e =
      by_test (f.complete state s) (complete_rest (suc bytes) state s e)
      (λ t. let w = first_result (step_of f state s) (following f (read_from f bytes) state s) (sym (cond_false _ _ t) ∙ e) in
      step_rest state s (read_from f bytes) (λ x. list_rest bytes x (drop (width_at s) s)) w.0 w.2)

-- ---- masks, and a table

listed_rest : (kind : MaskKind) (s : List ℕ) {t : ReadTable} → read_listed kind s ≡ yields t → (k : ℕ) × (t.rest ≡ drop k s)
unfolding read_listed read_list
listed_rest kind s e =
    let n = field_at 2 1 s in
    let head = record_there (head_of (AtRecord Frame) s) _ e in
    let frame = passed (not (is_frame n)) FrameSize (and_then (read_list (mask_list kind n) [] (drop 3 s)) (λ l. yields (listed_table n l))) head.2 in
    let list = first_result (read_list (mask_list kind n) [] (drop 3 s)) (λ l. yields (listed_table n l)) frame.1 in
    let behind = list_rest (mask_list kind n) (length (drop 3 s)) [] (drop 3 s) list.1 in
    (3 + behind.0, ap (λ (t : ReadTable). t.rest) (sym (same_result list.2)) ∙ (behind.1 ∙ drop-drop behind.0 3 s))

pub table_rest : (s : List ℕ) {t : ReadTable} → read_table s ≡ yields t → (k : ℕ) × (t.rest ≡ drop k s)
unfolding read_table accepted
table_rest s e =
    let first = first_result (read_listed SurvivorSet s) accepted e in
    let u = first.0 in
    let kept = first_result (within_core_limit u.sets) (λ table. yields (record { n = u.n; sets = table; rest = u.rest })) first.2 in
    let listed = listed_rest SurvivorSet s first.1 in
    (listed.0, ap (λ (t : ReadTable). t.rest) (sym (same_result kept.2)) ∙ listed.1)

pub rest_bytes : (s : List ℕ) → Bytes s → {t : ReadTable} → read_table s ≡ yields t → Bytes t.rest
rest_bytes s bytes e i =
    let w = table_rest s e in
    subst (λ (x : ℕ). x < 256) (sym (ap (λ (l : List ℕ). get_or l i 0) w.1 ∙ get_or-drop w.0 s i 0)) (bytes (w.0 + i))
