-- One record of a list of masks, and the frame before them.
use Rattle.std.specs.Prelude.{Ok}
use mathlib.Core.Path.{◌≡◌, sym, ap, ◌∙◌, subst}
use mathlib.Core.List.{List}
use Prim.Native.Nat.{ℕ, ◌+◌, ◌≤◌}
use lib.ListN.{length}
use Rattle.records.specs.declared.Due.TheVariants.{AtRecord}
use Rattle.records.specs.declared.Kind.{Kind}
use Rattle.records.specs.declared.Kind.TheVariants as kinds
use Rattle.records.specs.declared.Next.TheVariants.{One}
use Rattle.records.specs.Marks.{body_width, width_at, is_due, head_of}
use Rattle.records.specs.Marks.Laws.{head_present, kind_is}
use Rattle.records.specs.RecordLists.{next_of}
use Rattle.records.specs.RecordLists.Laws.{own_width}
use Rattle.survivor_tables.specs.declared.frames.MaskKind.{MaskKind}
use Rattle.table_files.specs.Files.{record_of, due_after, mask_list}
use Rattle.table_files.specs.Files.Laws.{own_mask, mask_width}

-- ---- one mask

-- a record of the list is as wide as an SV or FL
pub mask_whole : (kind : MaskKind) (n : ℕ) (sets s : List ℕ) → next_of (due_after kind (length sets)) (length sets) s ≡ Ok One → 10 ≡ width_at s
mask_whole kind n sets s e = sym (own_width (mask_list kind n) (record_of kind) (own_mask kind n) sets (length sets) s e ∙ ap (λ (w : ℕ). 2 + w) (mask_width kind))

-- ---- the frame

pub frame_whole : (s : List ℕ) (k : Kind) → Ok k ≡ head_of (AtRecord kinds.Frame) s → 3 ≤ length s
unfolding body_width is_due
frame_whole s k h =
    let p = head_present (AtRecord kinds.Frame) s k (sym h) in
    subst (λ (j : Kind). 2 + body_width j ≤ length s) (kind_is kinds.Frame k p.is_due_law) p.long
