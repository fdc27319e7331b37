-- Laws of lists of records: reading goes on as the step says, a step and an end are whole, and what a list that is read
-- satisfies.
use Rattle.std.specs.Prelude.{◌≡◌, Bool, ◌||◌, ◌⊎◌, List, eqb, length, drop, Result, Ok, Err}
use Rattle.std.proofs.Math.Path.{refl, sym, ap, subst}
use Rattle.std.proofs.Common.{◌∙◌, inl, inr, ⊎_elim, length-drop, lt-ltb, le-ltb}
use Rattle.std.proofs.Math.Bool.{true, false, cond}
use Rattle.std.proofs.Math.Option.{Option, none, some}
use Prim.Native.Nat.{ℕ, zero, suc, ◌+◌, ◌-◌, ◌≤◌, ◌<◌}
use native.Mathlib.Omega.{arith}
use Rattle.drive_sets.specs.Bools.Laws.{clash, by_test, or_cases, cond_true, cond_false}
use Rattle.drive_sets.specs.Options.Laws.{none_some, same_some}
use Rattle.drive_sets.specs.declared.Refusal.{Refusal}
use Rattle.drive_sets.specs.declared.Refusal.TheVariants.{EndsTooSoon, WrongMark, CountDiffers}
use Rattle.drive_sets.specs.Refusals.{Outcome, refused, yields, and_then, number}
use Rattle.drive_sets.specs.Refusals.Laws.{refused_no_result, same_result, first_result}
use Rattle.records.specs.declared.Kind.{Kind}
use Rattle.records.specs.declared.Kind.TheVariants as kinds
use Rattle.records.specs.declared.Due.{Due}
use Rattle.records.specs.declared.Next.{Next}
use Rattle.records.specs.declared.Next.TheVariants.{One, End}
use Rattle.records.specs.Fields.{field_at}
use Rattle.records.specs.Marks.{body_width, is_kind, is_due, kind_at, width_at, head_of}
use Rattle.records.specs.Marks.Laws.{Present, head_present, kind_is}
use Rattle.records.specs.RecordLists.{at_record, next_at, next_of, ListFormat, ReadList, step_at, step_of, following, read_from, read_list}

-- what was made of a record that stood there
pub record_there : {A : Type 0} (h : Result Kind Refusal) (f : Kind → Outcome A) {a : A} → at_record h f ≡ yields a → (k : Kind) × (h ≡ Ok k) × (f k ≡ yields a)
record_there (Err r) f e = absurd (refused_no_result e)
record_there (Ok k) f e = (k, refl, e)

-- ---- the end, or one more

end_not_stop : {r : Refusal} → Err r ≡ (Ok End) → ⊥
end_not_stop e = let z : ◌≡◌ {A = ℕ} 0 1 = cc in omega arith

one_not_stop : {r : Refusal} → Err r ≡ (Ok One) → ⊥
one_not_stop e = let z : ◌≡◌ {A = ℕ} 0 1 = cc in omega arith

one_not_end : ◌≡◌ {A = Result Next Refusal} (Ok End) (Ok One) → ⊥
one_not_end e = let z : ◌≡◌ {A = ℕ} 0 1 = cc in omega arith

-- the kind that is there: EN, or another
module _ (due : Due) (count : ℕ) (s : List ℕ) where
  end_present : next_of due count s ≡ (Ok End) → Present due s kinds.End
  unfolding next_of
  end_present e = go (head_of due s) refl e
    where
      go : (h : Result Kind Refusal) → head_of due s ≡ h → next_at h count s ≡ (Ok End) → Present due s kinds.End
      go (Err r) f e = absurd (end_not_stop e)
      go (Ok k) f e =
          by_test (is_kind kinds.End k)
          (λ t. subst (Present due s) (kind_is kinds.End k t) (head_present due s k f))
          (λ t. absurd (one_not_end (sym e ∙ cond_false _ _ t)))

  pub one_there : next_of due count s ≡ (Ok One) → (k : Kind) × (is_kind kinds.End k ≡ false) × (head_of due s ≡ Ok k)
  unfolding next_of
  one_there e = go (head_of due s) refl e
    where
      no_one : (t : Bool) → cond t (Ok End) (Err CountDiffers) ≡ (Ok One) → ⊥
      no_one true e = one_not_end e
      no_one false e = one_not_stop e

      go : (h : Result Kind Refusal) → head_of due s ≡ h → next_at h count s ≡ (Ok One) → (k : Kind) × (is_kind kinds.End k ≡ false) × (head_of due s ≡ Ok k)
      go (Err r) f e = absurd (one_not_stop e)
      go (Ok k) f e =
          by_test (is_kind kinds.End k)
          (λ t. absurd (no_one (eqb (field_at 2 1 s) count) (sym (cond_true _ _ t) ∙ e)))
          (λ t. (k, t, f))

-- a record that is no EN where one is due
pub record_next : (due : Due) (count : ℕ) (s : List ℕ) (k : Kind) → head_of due s ≡ Ok k → is_kind kinds.End k ≡ false → next_of due count s ≡ (Ok One)
unfolding next_of
record_next due count s k e t = rw (e, t)

-- where EN is not due, a record is one more
pub other_next : (due : Due) (count : ℕ) (s : List ℕ) (k : Kind) → is_due due kinds.End ≡ false → head_of due s ≡ Ok k → next_of due count s ≡ (Ok One)
other_next due count s k no_end e =
    by_test (is_kind kinds.End k)
    (λ t. absurd (clash (subst (λ (j : Kind). is_due due j ≡ true) (kind_is kinds.End k t) (head_present due s k e).is_due_law) no_end))
    (record_next due count s k e)

cut_next : (due : Due) (count : ℕ) (s : List ℕ) → length s < 2 → next_of due count s ≡ Err EndsTooSoon
unfolding next_of head_of
cut_next due count s h = rw (lt-ltb (length s) 2 h)

-- where a kind or EN is due and it is not EN, it is of that kind
pub other_kind : (j k : Kind) → (is_kind j k || is_kind kinds.End k) ≡ true → is_kind kinds.End k ≡ false → k ≡ j
other_kind j k d t = ⊎_elim (kind_is j k) (λ h. absurd (clash h t)) (or_cases (is_kind j k) (is_kind kinds.End k) d)

-- a record that is taken is there
pub one_whole : (due : Due) (count : ℕ) (s : List ℕ) → next_of due count s ≡ (Ok One) → width_at s ≤ length s
one_whole due count s e =
    let p = one_there due count s e in
    let there = head_present due s p.0 p.2 in
    subst (λ (k : Kind). 2 + body_width k ≤ length s) (sym there.is) there.long

module _ {S : Type 0} (f : ListFormat S) where
  -- nothing is due in the list but one kind and EN
  abbrev pub OwnKind : Kind → Type 0
  OwnKind kind = (state : S) (k : Kind) → is_due (f.due state) k ≡ true → is_kind kinds.End k ≡ false → k ≡ kind

  -- so each of its records is as wide as that kind
  pub own_width : (kind : Kind) → OwnKind kind → (state : S) (count : ℕ) (s : List ℕ) → next_of (f.due state) count s ≡ (Ok One) → width_at s ≡ 2 + body_width kind
  own_width kind own state count s e =
      let p = one_there (f.due state) count s e in
      let there = head_present (f.due state) s p.0 p.2 in
      ap (λ (k : Kind). 2 + body_width k) (there.is ∙ own state p.0 there.is_due_law p.1)

  -- ---- one step

  pub step_end : (state : S) (s : List ℕ) → step_of f state s ≡ yields none → Present (f.due state) s kinds.End
  unfolding step_of
  step_end state s e = go (next_of (f.due state) (f.count state) s) refl e
    where
      go : (x : Result Next Refusal) → next_of (f.due state) (f.count state) s ≡ x → step_at x (f.taken state s) ≡ yields none → Present (f.due state) s kinds.End
      go (Err r) p e = absurd (refused_no_result e)
      go (Ok End) p e = end_present (f.due state) (f.count state) s p
      go (Ok One) p e = absurd (none_some refl (sym (same_result (first_result (f.taken state s) (λ t. yields (some t)) e).2)))

  pub step_more : (state : S) (s : List ℕ) {t : S} → step_of f state s ≡ yields (some t)
      → (next_of (f.due state) (f.count state) s ≡ (Ok One)) × (f.taken state s ≡ yields t)
  unfolding step_of
  step_more state s {t} e = go (next_of (f.due state) (f.count state) s) refl e
    where
      go : (x : Result Next Refusal) → next_of (f.due state) (f.count state) s ≡ x → step_at x (f.taken state s) ≡ yields (some t)
          → (next_of (f.due state) (f.count state) s ≡ (Ok One)) × (f.taken state s ≡ yields t)
      go (Err r) p e = absurd (refused_no_result e)
      go (Ok End) p e = absurd (none_some refl (same_result e))
      go (Ok One) p e =
          let w = first_result (f.taken state s) (λ x. yields (some x)) e in
          (p, w.1 ∙ ap (λ (x : S). yields x) (same_some refl (same_result w.2)))

  pub end_whole : (state : S) (s : List ℕ) → step_of f state s ≡ yields none → 3 ≤ length s
  unfolding body_width
  end_whole state s e = (step_end state s e).long

  -- ---- reading goes on as the step says

  pub read_complete_law : (bytes : ℕ) (state : S) (s : List ℕ) → f.complete state s ≡ true → read_from f bytes state s ≡ yields (record { list = state; rest = s })
  unfolding read_from
  read_complete_law zero state s e = cond_true _ _ e
  read_complete_law (suc bytes) state s e = cond_true _ _ e

  pub read_step : (bytes : ℕ) (state : S) (s : List ℕ) → length s ≤ bytes → f.complete state s ≡ false
      → read_from f bytes state s ≡ and_then (step_of f state s) (following f (read_from f (bytes - 1)) state s)
  unfolding read_from step_of
  read_step zero state s h e =
      cond_false _ _ e ∙ sym (ap (λ (x : Result Next Refusal). and_then (step_at x (f.taken state s)) (following f (read_from f 0) state s)) (cut_next (f.due state) (f.count state) s (omega arith)))
  read_step (suc bytes) state s h e =
      let less : bytes ≡ suc bytes - 1 = omega arith in
      cond_false _ _ e ∙ ap (λ (k : ℕ). and_then (step_of f state s) (following f (read_from f k) state s)) less

  -- a mark that is not due
  pub read_wrong : (state : S) (s : List ℕ) → f.complete state s ≡ false → 2 ≤ length s → is_due (f.due state) (kind_at s) ≡ false → read_list f state s ≡ refused (number WrongMark)
  unfolding read_list step_of next_of head_of
  read_wrong state s going long wrong = read_step (length s) state s (omega arith) going ∙ rw (le-ltb (length s) 2 long, wrong)

  -- what follows a step is read behind at least two bytes
  step_alike : (state : S) (s : List ℕ) (later other : S → List ℕ → Outcome (ReadList S)) → ((t : S) → 2 ≤ length s → later t (drop (width_at s) s) ≡ other t (drop (width_at s) s))
      → and_then (step_of f state s) (following f later state s) ≡ and_then (step_of f state s) (following f other state s)
  step_alike state s later other same = go (step_of f state s) refl
    where
      go : (o : Outcome (Option S)) → step_of f state s ≡ o → and_then o (following f later state s) ≡ and_then o (following f other state s)
      go (refused r) e = refl
      go (yields none) e = refl
      go (yields (some t)) e = same t (omega (arith, one_whole (f.due state) (f.count state) s (step_more state s e).0))

  -- as many bytes as there are suffice
  read_alike : (bytes others : ℕ) (state : S) (s : List ℕ) → length s ≤ bytes → length s ≤ others → read_from f bytes state s ≡ read_from f others state s
  read_alike zero others state s h h' =
      by_test (f.complete state s)
      (λ t. read_complete_law zero state s t ∙ sym (read_complete_law others state s t))
      (λ t. read_step zero state s h t ∙ (step_alike state s (read_from f 0) (read_from f (others - 1)) (λ x long. absurd (omega arith)) ∙ sym (read_step others state s h' t)))
  read_alike (suc bytes) others state s h h' =
      by_test (f.complete state s)
      (λ t. read_complete_law (suc bytes) state s t ∙ sym (read_complete_law others state s t))
      (λ t. read_step (suc bytes) state s h t
      ∙ (step_alike state s (read_from f (suc bytes - 1)) (read_from f (others - 1))
      (λ x long. let less : suc bytes - 1 ≡ bytes = omega arith in
      ap (λ (k : ℕ). read_from f k x (drop (width_at s) s)) less
      ∙ read_alike bytes (others - 1) x (drop (width_at s) s) (omega (arith, length-drop (width_at s) s)) (omega (arith, length-drop (width_at s) s)))
      ∙ sym (read_step others state s h' t)))

  pub read_enough : (bytes : ℕ) (state : S) (s : List ℕ) → length s ≤ bytes → read_from f bytes state s ≡ read_list f state s
  unfolding read_list
  read_enough bytes state s h = read_alike bytes (length s) state s h (omega arith)

  -- ---- what holds of each state

  -- what the records keep holds of what is read; and where the list ended, it is complete or EN is due
  abbrev pub Kept : (S → List ℕ → Type 0) → ReadList S → Type 0
  Kept P r = (rest : List ℕ) × P r.list rest × ((f.complete r.list rest ≡ true) ⊎ (is_due (f.due r.list) kinds.End ≡ true))

  module _ (P : S → List ℕ → Type 0) (keeps : (state : S) (s : List ℕ) (t : S) → P state s → f.complete state s ≡ false → f.taken state s ≡ yields t → P t (drop (width_at s) s)) where
    complete_kept : (bytes : ℕ) (state : S) (s : List ℕ) {r : ReadList S} → P state s → read_from f bytes state s ≡ yields r → f.complete state s ≡ true → Kept P r
    complete_kept bytes state s p e t =
        let same = ap (λ (x : ReadList S). x.list) (same_result (sym (read_complete_law bytes state s t) ∙ e)) in
        (s, subst (λ (x : S). P x s) same p, inl (ap (λ (x : S). f.complete x s) (sym same) ∙ t))

    step_kept : (state : S) (s : List ℕ) {r : ReadList S} (later : S → List ℕ → Outcome (ReadList S)) → P state s → f.complete state s ≡ false
        → ((t : S) → P t (drop (width_at s) s) → later t (drop (width_at s) s) ≡ yields r → Kept P r)
        → (o : Option S) → step_of f state s ≡ yields o → following f later state s o ≡ yields r → Kept P r
    step_kept state s later p going more none g e =
        let same = ap (λ (x : ReadList S). x.list) (same_result e) in
        (s, subst (λ (x : S). P x s) same p, inr (subst (λ (x : S). is_due (f.due x) kinds.End ≡ true) same (step_end state s g).is_due_law))
    step_kept state s later p going more (some t) g e = more t (keeps state s t p going (step_more state s g).1) e

    pub read_keeps : (bytes : ℕ) (state : S) (s : List ℕ) {r : ReadList S} → P state s → read_from f bytes state s ≡ yields r → Kept P r
    unfolding read_from
    read_keeps zero state s p e =
        by_test (f.complete state s) (complete_kept zero state s p e) (λ t. absurd (refused_no_result (sym (cond_false _ _ t) ∙ e)))
    read_keeps (suc bytes) state s p e =
        by_test (f.complete state s) (complete_kept (suc bytes) state s p e)
        (λ t. let w = first_result (step_of f state s) (following f (read_from f bytes) state s) (sym (cond_false _ _ t) ∙ e) in
        step_kept state s (read_from f bytes) p t (λ x q g. read_keeps bytes x (drop (width_at s) s) q g) w.0 w.1 w.2)
