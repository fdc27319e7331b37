-- Lists of masks read back as written: with anything behind them, and a table that was read, written and read again is
-- the same.
use Rattle.std.specs.Prelude.{◌≡◌, refl, true, false, not, List, [], ◌∷◌, ◌++◌, ℕ, zero, suc, ◌+◌, ◌*◌, ◌≤◌, ◌<◌, leb, length, drop}
use Rattle.std.proofs.Common.{sym, ap, ◌∙◌, subst, ⊎_elim, append-nil, append_assoc, lt_of_lt_of_le, arith, pow_mono, length-append, eq-eqb, leb-false}
use Rattle.std.proofs.Math.Seq.{append_snoc}
use Rattle.std.proofs.lemmas.Bool.{not-false, lt-leb}
use Rattle.drive_sets.specs.Bools.Laws.{clash, or_left, or_right}
use Rattle.drive_sets.specs.Lists.{elem}
use Rattle.drive_sets.specs.Lists.Laws.{elem_head, elem_tail, elem_none, elem_one, elem_append_cases}
use Rattle.drive_sets.specs.declared.Refusal.TheVariants.{FrameSize, TooManySets, TrailingBytes}
use Rattle.drive_sets.specs.Refusals.{Outcome, yields, refuse_if, and_then}
use Rattle.drive_sets.specs.Refusals.Laws.{passed, first_result, same_result}
use Rattle.survivor_tables.specs.Order.{normal}
use Rattle.survivor_tables.specs.Order.Normal.{normal_idempotent}
use Rattle.records.specs.declared.Kind.{Kind}
use Rattle.records.specs.declared.Kind.TheVariants.{Frame, End}
use Rattle.records.specs.declared.Due.TheVariants.{AtRecord}
use Rattle.records.specs.Fields.{from_bytes, field_at}
use Rattle.records.specs.Marks.{ascii, mark_text, mark, body_width, is_kind, is_due, kind_at, width_at, head_of, record_bytes}
use Rattle.records.specs.Marks.Laws.{length_record, head_record, head_present, kind_is, record_field, record_rest}
use Rattle.records.specs.RecordLists.{ReadList, read_list, list_bytes}
use Rattle.records.specs.RecordLists.Laws.{OwnKind, other_kind, read_keeps, record_there}
use Rattle.records.specs.RecordLists.Written.{Leads, length_list, list_back}
use Rattle.drive_sets.specs.Limits.{max_drives, max_sets}
use Rattle.survivor_tables.specs.declared.frames.MaskKind.{MaskKind}
use Rattle.survivor_tables.specs.declared.frames.MaskKind.TheVariants.{SurvivorSet, FaultGroup}
use Rattle.survivor_tables.specs.Tables.{is_frame, is_empty, within_core_limit, checked_mask, Accepted}
use Rattle.survivor_tables.proofs.Tables.Laws.{frame_high, mask_lt, mask_result, Checked, checked_accepted, within_limit, accepted_checked, accepted_within_limit, accepted_normal}
use Rattle.table_files.specs.Files.{ReadTable, record_of, due_after, taken_mask, mask_list, listed_table, read_listed, accepted, read_table, read_whole, file_bytes, table_bytes}

-- ---- the masks

-- their records have 8 bytes, and are no EN
pub mask_width : (kind : MaskKind) → body_width (record_of kind) ≡ 8
unfolding record_of body_width
mask_width SurvivorSet = refl
mask_width FaultGroup = refl

no_end : (kind : MaskKind) → (is_kind End (record_of kind) ≡ false) × (is_kind (record_of kind) End ≡ false)
unfolding record_of is_kind mark mark_text ascii from_bytes
no_end SurvivorSet = (refl, refl)
no_end FaultGroup = (refl, refl)

own_mark : (kind : Kind) → is_kind kind kind ≡ true
unfolding is_kind
own_mark kind = eq-eqb (mark kind) (mark kind) refl

pub own_mask : (kind : MaskKind) (n : ℕ) → OwnKind (mask_list kind n) (record_of kind)
unfolding due_after is_due
own_mask kind n [] k d t = kind_is (record_of kind) k d
own_mask kind n (x ∷ listed) k d t = other_kind (record_of kind) k d t

mask_due : (kind : MaskKind) (count : ℕ) → is_due (due_after kind count) (record_of kind) ≡ true
unfolding due_after is_due
mask_due kind zero = own_mark (record_of kind)
mask_due kind (suc count) = or_left (is_kind End (record_of kind)) (own_mark (record_of kind))

-- the end is due where a mask is listed
end_due : (kind : MaskKind) (count : ℕ) → 1 ≤ count → is_due (due_after kind count) End ≡ true
unfolding due_after is_due
end_due kind zero h = absurd (omega arith)
end_due kind (suc count) h = or_right (is_kind (record_of kind) End) (own_mark End)

due_listed : (kind : MaskKind) (count : ℕ) → is_due (due_after kind count) End ≡ true → 1 ≤ count
unfolding due_after is_due
due_listed kind zero e = absurd (clash e (no_end kind).1)
due_listed kind (suc count) e = omega arith

mask_taken : (kind : MaskKind) (n : ℕ) (listed rest : List ℕ) (x : ℕ) → length listed < max_sets → checked_mask kind n x ≡ yields x → n ≤ max_drives
    → taken_mask kind n listed (record_bytes (mark (record_of kind)) (body_width (record_of kind)) x ++ rest) ≡ yields (listed ++ (x ∷ []))
unfolding taken_mask
mask_taken kind n listed rest x few good high =
    let field = record_field (mark (record_of kind)) 8 x rest (lt_of_lt_of_le (mask_lt kind n x good) (pow_mono {i = n} {j = 64} high)) in
    rw (mask_width kind, lt-leb max_sets (length listed) few, field, good)

-- masks behind those listed lead to the whole
masks_lead : (kind : MaskKind) (masks : List ℕ) (n : ℕ) (listed whole : List ℕ) → whole ≡ listed ++ masks → length whole ≤ max_sets
    → ((m : ℕ) → elem m masks ≡ true → checked_mask kind n m ≡ yields m) → n ≤ max_drives → Leads (mask_list kind n) (record_of kind) listed masks whole
masks_lead kind [] n listed whole e few good high = sym (e ∙ append-nil listed)
masks_lead kind (x ∷ masks) n listed whole e few good high = (
  listed ++ (x ∷ []),
  (λ s. refl),
  mask_due kind (length listed),
  (λ rest. mask_taken kind n listed rest x (omega (arith, ap length e, length-append listed (x ∷ masks))) (good x (elem_head x masks)) high),
  masks_lead kind masks n (listed ++ (x ∷ [])) whole (e ∙ sym (append_snoc listed x masks)) few (λ m h. good m (elem_tail m x masks h)) high,
)

-- ---- the whole list

frame_read : (kind : MaskKind) (n : ℕ) (rest : List ℕ) → is_frame n ≡ true → n < 256
    → read_listed kind (record_bytes (mark Frame) 1 n ++ rest) ≡ and_then (read_list (mask_list kind n) [] rest) (λ l. yields (listed_table n l))
unfolding read_listed body_width is_due
frame_read kind n rest good few =
    rw (head_record (AtRecord Frame) Frame n rest (own_mark Frame), record_field (mark Frame) 1 n rest few, good, record_rest (mark Frame) 1 n rest)

pub listed_read : (kind : MaskKind) (n : ℕ) (masks rest : List ℕ) → Checked kind n masks
    → read_listed kind (file_bytes kind n masks ++ rest) ≡ yields (record { n = n; sets = masks; rest = rest })
unfolding file_bytes read_list
listed_read kind n masks rest c =
    ap (read_listed kind)
    (append_assoc (record_bytes (mark Frame) 1 n) (records ++ record_bytes (mark End) 1 (length masks)) rest
    ∙ ap (λ (r : List ℕ). record_bytes (mark Frame) 1 n ++ r) (append_assoc records (record_bytes (mark End) 1 (length masks)) rest))
    ∙ (frame_read kind n (records ++ end) c.frame (omega (arith, high))
    ∙ ap (λ (o : Outcome (ReadList (List ℕ))). and_then o (λ l. yields (listed_table n l)))
    (list_back (mask_list kind n) (record_of kind) (no_end kind).0 masks (length (records ++ end)) [] masks rest
    (omega (arith, length-append records end, length_list (record_of kind) masks, mask_width kind, ap (λ (w : ℕ). (2 + w) * length masks) (mask_width kind), length-append (record_bytes (mark End) 1 (length masks)) rest, length_record (mark End) 1 (length masks)))
    (masks_lead kind masks n [] masks refl c.most c.good high) (λ s. refl) (end_due kind (length masks) c.some) (omega (arith, c.most))))
  where
    high : n ≤ max_drives
    high = frame_high n c.frame

    records : List ℕ
    records = list_bytes (record_of kind) masks

    end : List ℕ
    end = record_bytes (mark End) 1 (length masks) ++ rest

-- the record behind FR tells which list it is
pub kind_behind : (kind : MaskKind) (n : ℕ) (masks : List ℕ) → 1 ≤ length masks → kind_at (drop 3 (file_bytes kind n masks)) ≡ record_of kind
unfolding file_bytes list_bytes is_due
kind_behind kind n [] some = absurd (omega arith)
kind_behind kind n (m ∷ masks) some =
    let behind = list_bytes (record_of kind) masks ++ record_bytes (mark End) 1 (length (m ∷ masks)) in
    ap kind_at (record_rest (mark Frame) 1 n ((one ++ list_bytes (record_of kind) masks) ++ record_bytes (mark End) 1 (length (m ∷ masks)))
    ∙ append_assoc one (list_bytes (record_of kind) masks) (record_bytes (mark End) 1 (length (m ∷ masks))))
    ∙ (head_present (AtRecord (record_of kind)) (one ++ behind) (record_of kind) (head_record (AtRecord (record_of kind)) (record_of kind) m behind (own_mark (record_of kind)))).is
  where
    one : List ℕ
    one = record_bytes (mark (record_of kind)) (body_width (record_of kind)) m

accepted_read : (n : ℕ) (sets rest : List ℕ) → Accepted n sets → accepted (record { n = n; sets = sets; rest = rest }) ≡ yields (record { n = n; sets = normal sets; rest = rest })
unfolding accepted
accepted_read n sets rest a = ap (λ (o : Outcome (List ℕ)). and_then o (λ table. yields (record { n = n; sets = table; rest = rest }))) (accepted_within_limit n sets a)

-- a table with its sets in any order, and anything behind it
pub read_any : (n : ℕ) (sets rest : List ℕ) → Accepted n sets → read_table (table_bytes n sets ++ rest) ≡ yields (record { n = n; sets = normal sets; rest = rest })
unfolding read_table
read_any n sets rest a = ap (λ (o : Outcome ReadTable). and_then o accepted) (listed_read SurvivorSet n sets rest (accepted_checked n sets a)) ∙ accepted_read n sets rest a

-- reading what the writer wrote, with anything behind it, gives the normal table and what stands behind
pub read_written : (n : ℕ) (sets rest : List ℕ) → Accepted n sets
    → read_table (table_bytes n (normal sets) ++ rest) ≡ yields (record { n = n; sets = normal sets; rest = rest })
read_written n sets rest a =
    read_any n (normal sets) rest (accepted_normal n sets a)
    ∙ ap (λ (t : List ℕ). yields (record { n = n; sets = t; rest = rest })) (normal_idempotent sets)

-- ---- what is read

-- what reading the masks gives meets nothing, and there are 1 to 128
masks_good : (kind : MaskKind) (n : ℕ) (s : List ℕ) {r : ReadList (List ℕ)} → is_frame n ≡ true → read_list (mask_list kind n) [] s ≡ yields r → Checked kind n r.list
unfolding read_list taken_mask
masks_good kind n s {r} frame e =
    let w = read_keeps (mask_list kind n) Good (λ listed b t g going p. kept listed b t g p) (length s) [] s ((λ x h. absurd (clash h (elem_none x))), omega arith) e in
    record { frame = frame; some = due_listed kind (length r.list) (⊎_elim (λ f. absurd (clash f refl)) (λ d. d) w.2); most = w.1.1; good = w.1.0 }
  where
    Good : List ℕ → List ℕ → Type 0
    Good listed b = ((x : ℕ) → elem x listed ≡ true → checked_mask kind n x ≡ yields x) × (length listed ≤ max_sets)

    kept : (listed b t : List ℕ) → Good listed b → taken_mask kind n listed b ≡ yields t → Good t (drop (width_at b) b)
    kept listed b t g p =
        let few = passed (leb max_sets (length listed)) TooManySets _ p in
        let mask = first_result (checked_mask kind n (field_at 2 8 b)) (λ m. yields (listed ++ (m ∷ []))) few.1 in
        let m = mask.0 in
        subst (λ (l : List ℕ). Good l b) (same_result mask.2) (
          (λ x h. ⊎_elim (λ i. g.0 x i) (λ i. rw (elem_one x m i) (mask_result kind n (field_at 2 8 b) mask.1)) (elem_append_cases x listed (m ∷ []) h)),
          omega (arith, length-append listed (m ∷ []), leb-false max_sets (length listed) few.0),
        )

-- what is listed meets nothing before 13
pub listed_checked : (kind : MaskKind) (s : List ℕ) {u : ReadTable} → read_listed kind s ≡ yields u → Checked kind u.n u.sets
unfolding read_listed
listed_checked kind s {u} e =
    let head = record_there (head_of (AtRecord Frame) s) _ e in
    let frame = passed (not (is_frame n)) FrameSize (and_then (read_list (mask_list kind n) [] (drop 3 s)) (λ l. yields (listed_table n l))) head.2 in
    let list = first_result (read_list (mask_list kind n) [] (drop 3 s)) (λ l. yields (listed_table n l)) frame.1 in
    subst (λ (r : ReadTable). Checked kind r.n r.sets) (same_result list.2) (masks_good kind n (drop 3 s) (not-false (is_frame n) frame.0) list.1)
  where
    n : ℕ
    n = field_at 2 1 s

pub table_read_law : (s : List ℕ) (t : ReadTable) → read_table s ≡ yields t → (sets : List ℕ) × Accepted t.n sets × (t.sets ≡ normal sets)
unfolding read_table accepted
table_read_law s t e =
    let w = first_result (read_listed SurvivorSet s) accepted e in
    let u = w.0 in
    let v = first_result (within_core_limit u.sets) (λ table. yields (record { n = u.n; sets = table; rest = u.rest })) w.2 in
    let few = within_limit u.sets v.1 in
    let is = same_result v.2 in (
      u.sets,
      subst (λ (k : ℕ). Accepted k u.sets) (ap (λ (r : ReadTable). r.n) is) (checked_accepted u.n u.sets (listed_checked SurvivorSet s w.1) few.0),
      ap (λ (r : ReadTable). r.sets) (sym is) ∙ few.1,
    )

-- a table that was read, written and read again is the same
pub read_again : (s : List ℕ) (t : ReadTable) → read_table s ≡ yields t → read_table (table_bytes t.n t.sets ++ t.rest) ≡ yields t
read_again s t e =
    let w = table_read_law s t e in
    subst (λ (l : List ℕ). read_table (table_bytes t.n l ++ t.rest) ≡ yields (record { n = t.n; sets = l; rest = t.rest })) (sym w.2) (read_written t.n w.0 t.rest w.1)

-- ---- a table and nothing more

rest_kept : (u t : ReadTable) → accepted u ≡ yields t → t.rest ≡ u.rest
unfolding accepted
rest_kept u t e =
    let v = first_result (within_core_limit u.sets) (λ table. yields (record { n = u.n; sets = table; rest = u.rest })) e in
    ap (λ (r : ReadTable). r.rest) (sym (same_result v.2))

pub empty_is : (l : List ℕ) → is_empty l ≡ true → l ≡ []
unfolding is_empty
empty_is [] e = refl
empty_is (x ∷ l) e = absurd (clash e refl)

-- the whole reader gives what the other gives where nothing stands behind
pub whole_table : (s : List ℕ) (t : ReadTable) → read_whole s ≡ yields t → (read_table s ≡ yields t) × (t.rest ≡ [])
unfolding read_whole read_table
whole_table s t e =
    let w = first_result (read_listed SurvivorSet s) (λ u. refuse_if (not (is_empty u.rest)) TrailingBytes (accepted u)) e in
    let p = passed (not (is_empty w.0.rest)) TrailingBytes (accepted w.0) w.2 in (
      ap (λ (o : Outcome ReadTable). and_then o accepted) w.1 ∙ p.1,
      rest_kept w.0 t p.1 ∙ empty_is w.0.rest (not-false (is_empty w.0.rest) p.0),
    )

pub table_whole : (s : List ℕ) (t : ReadTable) → read_table s ≡ yields t → t.rest ≡ [] → read_whole s ≡ yields t
unfolding read_whole read_table is_empty
table_whole s t e none =
    let w = first_result (read_listed SurvivorSet s) accepted e in
    rw (w.1, sym (rest_kept w.0 t w.2) ∙ none) w.2

-- reading what the writer wrote
pub whole_written : (n : ℕ) (sets : List ℕ) → Accepted n sets → read_whole (table_bytes n (normal sets)) ≡ yields (record { n = n; sets = normal sets; rest = [] })
whole_written n sets a =
    table_whole _ _ (subst (λ (s : List ℕ). read_table s ≡ yields (record { n = n; sets = normal sets; rest = [] })) (append-nil _) (read_written n sets [] a)) refl
