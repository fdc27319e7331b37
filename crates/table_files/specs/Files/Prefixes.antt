-- What stands behind the first 4096 bytes of a list of masks changes nothing: a program may leave it unread. A list has
-- room for no more than 128 masks.
use Rattle.records.specs.declared.Kind.{Kind}
use Rattle.std.specs.Prelude.{◌≡◌, refl, not, List, [], ◌∷◌, ◌++◌, leb, length, take, drop, Result}
use Rattle.std.proofs.Common.{sym, ap, ◌∙◌, subst, arith, length-append, leb-false}
use Prim.Native.Nat.{ℕ, zero, suc, ◌+◌, ◌-◌, ◌≤◌, ◌<◌}
use Rattle.drive_sets.specs.declared.Refusal.{Refusal}
use Rattle.drive_sets.specs.declared.Refusal.TheVariants.{FrameSize, TooManySets, TrailingBytes}
use Rattle.drive_sets.specs.Refusals.{Outcome, yields, refuse_if, and_then}
use Rattle.drive_sets.specs.Refusals.Laws.{passed, first_result, same_result, then_then}
use Rattle.records.specs.declared.Due.TheVariants.{AtRecord}
use Rattle.records.specs.declared.Kind.TheVariants.{Frame}
use Rattle.records.specs.Fields.{field_at}
use Rattle.records.specs.Marks.{head_of}
use Rattle.records.specs.RecordLists.{at_record, read_list}
use Rattle.records.specs.RecordLists.Prefixes.{drop_prefix, field_prefix, head_prefix, Alike, no_other, at_record_law, by_cond, widest, list_prefix}
use Rattle.drive_sets.specs.Limits.{max_sets, max_input}
use Rattle.survivor_tables.specs.declared.frames.MaskKind.{MaskKind}
use Rattle.survivor_tables.specs.Tables.{is_frame, is_empty, checked_mask}
use Rattle.table_files.specs.Files.{ReadTable, taken_mask, mask_list, listed_table, read_listed, read_all}

-- whether anything stands behind is seen from one byte
pub empty_prefix : (j : ℕ) (s : List ℕ) → 1 ≤ j → is_empty (take j s) ≡ is_empty s
unfolding is_empty
empty_prefix zero s h = absurd (omega arith)
empty_prefix (suc j) [] h = refl
empty_prefix (suc j) (x ∷ s) h = refl

-- ---- the masks

mask_prefix : (kind : MaskKind) (n : ℕ) (listed : List ℕ) (k : ℕ) (s : List ℕ) → widest ≤ k → taken_mask kind n listed (take k s) ≡ taken_mask kind n listed s
unfolding taken_mask
mask_prefix kind n listed k s h =
    ap (λ (x : ℕ). refuse_if (leb max_sets (length listed)) TooManySets (and_then (checked_mask kind n x) (λ m. yields (listed ++ (m ∷ []))))) (field_prefix 2 8 k s (omega arith))

-- a mask fewer can follow
masks_left : (kind : MaskKind) (n : ℕ) (listed s t : List ℕ) → taken_mask kind n listed s ≡ yields t → max_sets - length t < max_sets - length listed
unfolding taken_mask
masks_left kind n listed s t e =
    let few = passed (leb max_sets (length listed)) TooManySets _ e in
    let mask = first_result (checked_mask kind n (field_at 2 8 s)) (λ m. yields (listed ++ (m ∷ []))) few.1 in
    omega (arith, ap length (same_result mask.2), length-append listed (mask.0 ∷ []), leb-false max_sets (length listed) few.0)

-- ---- the list, and what is made of it: so many bytes behind it matter

module _ {B : Type 0} (kind : MaskKind) (finish : ReadTable → Outcome B) (most : ℕ)
    (blind : (n : ℕ) (sets rest : List ℕ) (j : ℕ) → most ≤ j
    → finish (record { n = n; sets = sets; rest = take j rest }) ≡ finish (record { n = n; sets = sets; rest = rest })) where
  masks_prefix : (n : ℕ) (s : List ℕ) (k : ℕ) → 1548 + most ≤ k
      → Alike finish (and_then (read_list (mask_list kind n) [] (take k s)) (λ l. yields (listed_table n l))) (and_then (read_list (mask_list kind n) [] s) (λ l. yields (listed_table n l)))
  masks_prefix n s k h = record {
    same = then_then (read_list (mask_list kind n) [] (take k s)) (listed_table n) finish
        ∙ (list_prefix (mask_list kind n) (λ l. finish (listed_table n l)) most (blind n) (mask_prefix kind n) (λ l j s h. refl) (λ l. max_sets - length l) (λ l b t going e. masks_left kind n l b t e) [] s k (omega arith)
        ∙ sym (then_then (read_list (mask_list kind n) [] s) (listed_table n) finish));
  }

  pub listed_prefix : (s : List ℕ) (k : ℕ) → 1551 + most ≤ k → and_then (read_listed kind (take k s)) finish ≡ and_then (read_listed kind s) finish
  unfolding read_listed
  listed_prefix s k h =
      (subst (λ (x : Result Kind Refusal). Alike finish (at_record x (λ frame. sized (field_at 2 1 (take k s)) (drop 3 (take k s)))) (read_listed kind s))
      (sym (head_prefix (AtRecord Frame) k s (omega arith)))
      (at_record_law (head_of (AtRecord Frame) s) (λ frame. all_masks))).same
    where
      n : ℕ
      n = field_at 2 1 s

      sized : ℕ → List ℕ → Outcome ReadTable
      sized x rest = refuse_if (not (is_frame x)) FrameSize (and_then (read_list (mask_list kind x) [] rest) (λ l. yields (listed_table x l)))

      all_masks : Alike finish (sized (field_at 2 1 (take k s)) (drop 3 (take k s))) (sized n (drop 3 s))
      all_masks =
          subst (λ (x : ℕ). Alike finish (sized x (drop 3 (take k s))) (sized n (drop 3 s))) (sym (field_prefix 2 1 k s (omega arith)))
          (subst (λ (l : List ℕ). Alike finish (sized n l) (sized n (drop 3 s))) (sym (drop_prefix 3 k s))
          (by_cond (not (is_frame n)) no_other (masks_prefix n (drop 3 s) (k - 3) (omega arith))))

-- ---- a list and nothing more

pub all_prefix : (kind : MaskKind) (finish : ReadTable → Outcome ReadTable) (s : List ℕ) → read_all kind finish (take max_input s) ≡ read_all kind finish s
unfolding is_empty
all_prefix kind finish s =
    listed_prefix kind (λ t. refuse_if (not (is_empty t.rest)) TrailingBytes (finish t)) 1 blind s max_input (omega arith)
  where
    blind : (n : ℕ) (sets rest : List ℕ) (j : ℕ) → 1 ≤ j
        → refuse_if (not (is_empty (take j rest))) TrailingBytes (finish (record { n = n; sets = sets; rest = take j rest }))
        ≡ refuse_if (not (is_empty rest)) TrailingBytes (finish (record { n = n; sets = sets; rest = rest }))
    blind n sets rest zero h = absurd (omega arith)
    blind n sets [] (suc j) h = refl
    blind n sets (x ∷ rest) (suc j) h = refl
