-- The writer of lists of masks: each record goes over the part behind those already written.
use mathlib.Core.Path.{◌≡◌, sym, ap, ◌∙◌}
use mathlib.Core.List.{List, [], ◌++◌, append_assoc}
use Prim.Native.Nat.{ℕ, ◌+◌, ◌*◌, ◌-◌, ◌/◌, ◌≤◌, ◌<◌}
use native.Mathlib.Omega.{arith}
use native.Mathlib.Numerals.{add-one}
use lib.ListN.{length, get_or, take, drop, length-append}
use lib.Seq.{take-suc, take_all, length-take-le}
use borrow.Author.Tests.{le-ltb}
use borrow.Rule.Slice.PartMut.{put_mid}
use Rattle.records.specs.declared.Kind.TheVariants.{Frame, End}
use Rattle.drive_sets.specs.Bools.Laws.{cond_false}
use Rattle.drive_sets.specs.Lent.{written}
use Rattle.drive_sets.specs.Lent.Laws.{length_written, written_fits, written_none}
use Rattle.records.specs.Marks.{mark, record_bytes}
use Rattle.records.specs.RecordLists.{list_bytes}
use Rattle.records.specs.RecordLists.Written.{length_list, list_more}
use Rattle.records.specs.Marks.Laws.{length_record}
use Rattle.lent_bytes.proofs.Parts.{part_then}
use Rattle.drive_sets.specs.Limits.{max_sets}
use Rattle.drive_sets.specs.Refusals.{refused, yields}
use Rattle.survivor_tables.specs.declared.frames.MaskKind.{MaskKind}
use Rattle.survivor_tables.specs.declared.frames.MaskKind.TheVariants.{SurvivorSet}
use Rattle.complete_tables.specs.declared.TableWithCores.{TableWithCores}
use Rattle.complete_tables.specs.Complete.{sets_of, complete_of, complete_table}
use Rattle.complete_tables.proofs.Accepts.{accept_refused, accept_taken}
use Rattle.table_files.specs.Files.{record_of, file_bytes}
use Rattle.table_files.specs.Files.Laws.{mask_width}
use Rattle.table_writing.specs.Writing.{write_list, write_table}

-- ---- the masks

length_masks : (kind : MaskKind) (masks : List ℕ) → length (list_bytes (record_of kind) masks) ≡ 10 * length masks
length_masks kind masks = length_list (record_of kind) masks ∙ ap (λ (w : ℕ). (2 + w) * length masks) (mask_width kind)

pub masks_none : (kind : MaskKind) (old masks : List ℕ) → length old / 10 < length masks → old ≡ written (list_bytes (record_of kind) masks) old
masks_none kind old masks h = sym (written_none (list_bytes (record_of kind) masks) old (omega (arith, length_masks kind masks)))

-- the first i masks are written
pub record Writing (kind : MaskKind) (old masks part : List ℕ) (i : ℕ) : Type 0 where
  pub fits : 10 * length masks ≤ length old
  pub same : part ≡ written (list_bytes (record_of kind) (take i masks)) old

pub writing_start : (kind : MaskKind) (old masks : List ℕ) → length masks ≤ length old / 10 → Writing kind old masks old 0
unfolding list_bytes
writing_start kind old masks h = record { fits = omega arith; same = sym (written_fits [] old (omega arith)) }

module _ {kind : MaskKind} {old masks part : List ℕ} {i : ℕ} (w : Writing kind old masks part i) where
  pub writing_long : length part ≡ length old
  writing_long = ap length w.same ∙ length_written (list_bytes (record_of kind) (take i masks)) old

  pub writing_turn : i < length masks → (m : ℕ) (back : List ℕ) → m ≡ mark (record_of kind)
      → back ≡ written (record_bytes m 8 (get_or masks i 0)) (take (length part - 10 * i) (drop (10 * i) part))
      → Writing kind old masks (put_mid (10 * i) (length part - 10 * i) part back) (i + 1)
  writing_turn h m back p e = record { fits = w.fits; same = done }
    where
      taken : length (list_bytes (record_of kind) (take i masks)) ≡ 10 * i
      taken = length_masks kind (take i masks) ∙ ap (λ (k : ℕ). 10 * k) (length-take-le i masks (omega arith))

      more : list_bytes (record_of kind) (take i masks) ++ record_bytes m 8 (get_or masks i 0) ≡ list_bytes (record_of kind) (take (i + 1) masks)
      more =
          ap (λ (k : ℕ). list_bytes (record_of kind) (take i masks) ++ record_bytes k 8 (get_or masks i 0)) p
          ∙ sym (ap (λ (k : ℕ). list_bytes (record_of kind) (take k masks)) (add-one i)
          ∙ (ap (list_bytes (record_of kind)) (take-suc masks i 0 h)
          ∙ (list_more (record_of kind) (take i masks) (get_or masks i 0)
          ∙ ap (λ (width : ℕ). list_bytes (record_of kind) (take i masks) ++ record_bytes (mark (record_of kind)) width (get_or masks i 0)) (mask_width kind))))

      done : put_mid (10 * i) (length part - 10 * i) part back ≡ written (list_bytes (record_of kind) (take (i + 1) masks)) old
      done =
          part_then old (list_bytes (record_of kind) (take i masks)) (record_bytes m 8 (get_or masks i 0)) part back (10 * i) w.same (sym taken)
          (omega (arith, taken, length_record m 8 (get_or masks i 0), w.fits)) e ∙ ap (λ (l : List ℕ). written l old) more

  pub writing_end : length masks ≤ i → part ≡ written (list_bytes (record_of kind) masks) old
  writing_end h = w.same ∙ ap (λ (l : List ℕ). written (list_bytes (record_of kind) l) old) (take_all i masks h)

-- ---- the whole list

module _ (kind : MaskKind) (n : ℕ) (masks : List ℕ) where
  pub length_file : length (file_bytes kind n masks) ≡ 6 + 10 * length masks
  unfolding file_bytes
  length_file =
      length-append (record_bytes (mark Frame) 1 n) (list_bytes (record_of kind) masks ++ record_bytes (mark End) 1 (length masks))
      ∙ omega (arith, length_record (mark Frame) 1 n, length-append (list_bytes (record_of kind) masks) (record_bytes (mark End) 1 (length masks)), length_masks kind masks, length_record (mark End) 1 (length masks))

  pub file_none : (old : List ℕ) → length old < 6 + 10 * length masks → old ≡ written (file_bytes kind n masks) old
  file_none old h = sym (written_none (file_bytes kind n masks) old (omega (arith, length_file)))

  -- FR, then the masks behind it, then EN
  pub file_written : (f g : ℕ) (old first second back third : List ℕ) (at : ℕ) → f ≡ mark Frame → g ≡ mark End → 6 + 10 * length masks ≤ length old
      → first ≡ written (record_bytes f 1 n) old → back ≡ written (list_bytes (record_of kind) masks) (take (length first - 3) (drop 3 first))
      → second ≡ put_mid 3 (length first - 3) first back → at ≡ 3 + 10 * length masks
      → third ≡ written (record_bytes g 1 (length masks)) (take (length second - at) (drop at second))
      → put_mid at (length second - at) second third ≡ written (file_bytes kind n masks) old
  unfolding file_bytes
  file_written f g old first second back third at p q h e e₂ e₃ place e₄ =
      part_then old (frame ++ list_bytes (record_of kind) masks) (record_bytes g 1 (length masks)) second third at
      (e₃ ∙ part_then old frame (list_bytes (record_of kind) masks) first back 3 (e ∙ ap (λ (k : ℕ). written (record_bytes k 1 n) old) p) (sym (length_record (mark Frame) 1 n))
      (omega (arith, length_record (mark Frame) 1 n, length_masks kind masks)) e₂)
      (place ∙ omega (arith, length-append frame (list_bytes (record_of kind) masks), length_record (mark Frame) 1 n, length_masks kind masks))
      (omega (arith, length-append frame (list_bytes (record_of kind) masks), length_record (mark Frame) 1 n, length_masks kind masks, length_record g 1 (length masks)))
      e₄
      ∙ ap (λ (l : List ℕ). written l old) (append_assoc frame (list_bytes (record_of kind) masks) (record_bytes g 1 (length masks)) ∙ ap (λ (k : ℕ). frame ++ (list_bytes (record_of kind) masks ++ record_bytes k 1 (length masks))) q)
    where
      frame : List ℕ
      frame = record_bytes (mark Frame) 1 n

-- ---- what is due

-- at most 128 masks meet nothing
pub list_written : (kind : MaskKind) (n : ℕ) (masks : List ℕ) → length masks ≤ max_sets → write_list kind n masks ≡ yields (file_bytes kind n masks)
unfolding write_list
list_written kind n masks few = cond_false _ _ (le-ltb max_sets (length masks) few)

-- a table that is given as n and sets: its refusals, or the list of its sets as it is
module _ (n : ℕ) (sets : List ℕ) where
  pub table_refused : {q : ℕ} → refused q ≡ complete_table n sets → write_table n sets ≡ refused q
  unfolding write_table
  table_refused e = rw (accept_refused n sets e)

  pub table_written : (t : TableWithCores) → yields (complete_of t) ≡ complete_table n sets → write_table n sets ≡ write_list SurvivorSet n (sets_of t.table)
  unfolding write_table
  table_written t e = let w = accept_taken n sets t e in rw (w.table, list_written SurvivorSet n (sets_of t.table) w.whole.most)
