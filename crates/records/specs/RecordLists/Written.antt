-- Records that were written are read back, one after another.
use Rattle.std.specs.Prelude.{◌≡◌, refl, Bool, true, false, cond, eqb, length, Result, Ok, Err}
use Rattle.std.proofs.Common.{sym, ◌∙◌, arith, drop_at, eq-eqb}
use Rattle.std.proofs.Math.Path.{ap}
use mathlib.Core.List.{List, [], ◌∷◌, ◌++◌, append-nil, append_assoc}
use Prim.Native.Nat.{ℕ, zero, suc, ◌+◌, ◌*◌, ◌<◌}
use Rattle.std.proofs.Math.ListN.{drop, length-append}
use Rattle.drive_sets.specs.declared.Refusal.{Refusal}
use Rattle.drive_sets.specs.Bools.Laws.{cond_false}
use Rattle.drive_sets.specs.declared.Refusal.TheVariants.{CountDiffers}
use Rattle.drive_sets.specs.Refusals.{Outcome, refused, yields, and_then}
use Rattle.records.specs.declared.Kind.{Kind}
use Rattle.records.specs.declared.Kind.TheVariants as kinds
use Rattle.records.specs.declared.Next.{Next}
use Rattle.records.specs.declared.Next.TheVariants.{One, End}
use Rattle.records.specs.Fields.{to_bytes, field_at}
use Rattle.records.specs.Fields.Laws.{length_to_bytes}
use Rattle.records.specs.Marks.{mark, body_width, is_kind, is_due, width_at, record_bytes}
use Rattle.records.specs.Marks.Laws.{head_present, length_record, head_body, head_record, record_field, record_rest}
use Rattle.records.specs.RecordLists.{next_at, next_of, ListFormat, step_at, step_of, following, read_from, list_bytes}
use Rattle.records.specs.RecordLists.Laws.{record_next}

pub length_list : (kind : Kind) (xs : List ℕ) → length (list_bytes kind xs) ≡ (2 + body_width kind) * length xs
unfolding list_bytes
length_list kind [] = omega arith
length_list kind (x ∷ xs) =
    length-append (record_bytes (mark kind) (body_width kind) x) (list_bytes kind xs) ∙ omega (arith, length_record (mark kind) (body_width kind) x, length_list kind xs)

-- one record more
pub list_more : (kind : Kind) (xs : List ℕ) (x : ℕ) → list_bytes kind (xs ++ (x ∷ [])) ≡ list_bytes kind xs ++ record_bytes (mark kind) (body_width kind) x
unfolding list_bytes
list_more kind [] x = append-nil (record_bytes (mark kind) (body_width kind) x)
list_more kind (y ∷ xs) x =
    ap (λ (r : List ℕ). record_bytes (mark kind) (body_width kind) y ++ r) (list_more kind xs x)
    ∙ sym (append_assoc (record_bytes (mark kind) (body_width kind) y) (list_bytes kind xs) (record_bytes (mark kind) (body_width kind) x))

module _ {S : Type 0} (f : ListFormat S) where
  -- the list does not end by itself in this state
  abbrev pub Going : S → Type 0
  Going state = (s : List ℕ) → f.complete state s ≡ false

  module _ (state : S) (rest : List ℕ) where
    -- one record, where it is due
    pub read_body : (kind : Kind) (bytes : ℕ) (body : List ℕ) → is_due (f.due state) kind ≡ true → is_kind kinds.End kind ≡ false → length body ≡ body_width kind
        → f.complete state (to_bytes 2 (mark kind) ++ (body ++ rest)) ≡ false
        → read_from f (suc bytes) state (to_bytes 2 (mark kind) ++ (body ++ rest)) ≡ and_then (f.taken state (to_bytes 2 (mark kind) ++ (body ++ rest))) (λ t. read_from f bytes t rest)
    unfolding read_from step_of
    read_body kind bytes body due no_end long going =
        let there = head_body (f.due state) kind (body ++ rest) due (omega (arith, length-append body rest)) in
        let found = head_present (f.due state) s kind there in
        cond_false _ _ going
        ∙ (ap (λ (n : Result Next Refusal). and_then (step_at n (f.taken state s)) (following f (read_from f bytes) state s)) (record_next (f.due state) (f.count state) s kind there no_end)
        ∙ (then_some (f.taken state s)
        ∙ ap (λ (l : List ℕ). and_then (f.taken state s) (λ t. read_from f bytes t l)) (ap (λ (k : Kind). drop (2 + body_width k) s) found.is ∙ behind)))
      where
        s : List ℕ
        s = to_bytes 2 (mark kind) ++ (body ++ rest)

        then_some : (o : Outcome S) → and_then (step_at (Ok One) o) (following f (read_from f bytes) state s) ≡ and_then o (λ t. read_from f bytes t (drop (width_at s) s))
        then_some (refused r) = refl
        then_some (yields t) = refl

        behind : drop (2 + body_width kind) s ≡ rest
        behind =
            ap (drop (2 + body_width kind)) (sym (append_assoc (to_bytes 2 (mark kind)) body rest))
            ∙ drop_at (to_bytes 2 (mark kind) ++ body) rest (2 + body_width kind) (length-append (to_bytes 2 (mark kind)) body ∙ omega (arith, length_to_bytes 2 (mark kind)))

    -- one of one field
    read_record : (kind : Kind) (bytes x : ℕ) {t : S} → is_due (f.due state) kind ≡ true → is_kind kinds.End kind ≡ false → Going state
        → f.taken state (record_bytes (mark kind) (body_width kind) x ++ rest) ≡ yields t
        → read_from f (suc bytes) state (record_bytes (mark kind) (body_width kind) x ++ rest) ≡ read_from f bytes t rest
    unfolding record_bytes
    read_record kind bytes x due no_end going e =
        let parts = append_assoc (to_bytes 2 (mark kind)) (to_bytes (body_width kind) x) rest in
        ap (read_from f (suc bytes) state) parts
        ∙ (read_body kind bytes (to_bytes (body_width kind) x) due no_end (length_to_bytes (body_width kind) x) (going _)
        ∙ ap (λ (o : Outcome S). and_then o (λ t. read_from f bytes t rest)) (ap (f.taken state) (sym parts) ∙ e))

    -- EN with the count
    read_end : (bytes : ℕ) → Going state → is_due (f.due state) kinds.End ≡ true → f.count state < 256
        → read_from f (suc bytes) state (record_bytes (mark kinds.End) 1 (f.count state) ++ rest) ≡ yields (record { list = state; rest = rest })
    unfolding read_from step_of next_of is_kind body_width
    read_end bytes going due few =
        cond_false _ _ (going s)
        ∙ (ap (λ (h : Result Kind Refusal). and_then (step_at (next_at h (f.count state) s) (f.taken state s)) (following f (read_from f bytes) state s)) (head_record (f.due state) kinds.End (f.count state) rest due)
        ∙ (ap (λ (b : Bool). and_then (step_at (cond (eqb (mark kinds.End) (mark kinds.End)) (cond b (Ok End) (Err CountDiffers)) (Ok One)) (f.taken state s)) (following f (read_from f bytes) state s))
        (eq-eqb (field_at 2 1 s) (f.count state) (record_field (mark kinds.End) 1 (f.count state) rest few))
        ∙ (ap (λ (b : Bool). and_then (step_at (cond b (Ok End) (Ok One)) (f.taken state s)) (following f (read_from f bytes) state s)) (eq-eqb (mark kinds.End) (mark kinds.End) refl)
        ∙ ap (λ (l : List ℕ). yields (record { list = state; rest = l })) (record_rest (mark kinds.End) 1 (f.count state) rest))))
      where
        s : List ℕ
        s = record_bytes (mark kinds.End) 1 (f.count state) ++ rest

  module _ (kind : Kind) where
    -- the records of the numbers lead from one state to another
    abbrev pub Leads : S → List ℕ → S → Type 0
    Leads state [] last = state ≡ last
    Leads state (x ∷ xs) last =
        (t : S) × Going state × (is_due (f.due state) kind ≡ true)
        × ((rest : List ℕ) → f.taken state (record_bytes (mark kind) (body_width kind) x ++ rest) ≡ yields t) × Leads t xs last

    -- a list that was written is read back, with anything behind it
    pub list_back : is_kind kinds.End kind ≡ false → (xs : List ℕ) (bytes : ℕ) (state last : S) (rest : List ℕ) → length xs < bytes → Leads state xs last
        → Going last → is_due (f.due last) kinds.End ≡ true → f.count last < 256
        → read_from f bytes state (list_bytes kind xs ++ (record_bytes (mark kinds.End) 1 (f.count last) ++ rest)) ≡ yields (record { list = last; rest = rest })
    unfolding list_bytes
    list_back no_end xs zero state last rest h w going due few = absurd (omega arith)
    list_back no_end [] (suc bytes) state last rest h w going due few =
        ap (λ (x : S). read_from f (suc bytes) x (record_bytes (mark kinds.End) 1 (f.count last) ++ rest)) w ∙ read_end last rest bytes going due few
    list_back no_end (x ∷ xs) (suc bytes) state last rest h w going due few =
        ap (read_from f (suc bytes) state) (append_assoc (record_bytes (mark kind) (body_width kind) x) (list_bytes kind xs) (record_bytes (mark kinds.End) 1 (f.count last) ++ rest))
        ∙ (read_record state (list_bytes kind xs ++ (record_bytes (mark kinds.End) 1 (f.count last) ++ rest)) kind bytes x w.2 no_end w.1 (w.3 (list_bytes kind xs ++ (record_bytes (mark kinds.End) 1 (f.count last) ++ rest)))
        ∙ list_back no_end xs bytes w.0 last rest (omega arith) w.4 going due few)
