-- What stands behind a start of so many bytes changes nothing: a record is read from its own bytes, reading goes from
-- left to right, and a list has room for no more than so many records.
use Rattle.std.specs.Prelude.{◌≡◌, Bool, true, false, not, List, [], ◌∷◌, ℕ, zero, suc, ◌+◌, ◌*◌, ◌-◌, ◌≤◌, ◌<◌, eqb, ltb, length, take, drop, Result, Ok, Err}
use Rattle.std.proofs.Math.Path.{refl, ap, ap₂}
use Rattle.std.proofs.Common.{sym, ◌∙◌, subst, arith, length-take, length-drop, take-take, lt-ltb, le-ltb, ltb-true, ltb-false}
use Rattle.std.proofs.Math.Bool.{cond}
use Rattle.std.proofs.Math.Option.{Option, none, some}
use Rattle.std.proofs.Math.Seq.{take-nil}
use Rattle.drive_sets.specs.declared.Refusal.{Refusal}
use Rattle.drive_sets.specs.Bools.Laws.{by_test}
use Rattle.drive_sets.specs.declared.Refusal.TheVariants.{EndsTooSoon, WrongMark, CountDiffers}
use Rattle.drive_sets.specs.Refusals.{Outcome, refused, yields, and_then}
use Rattle.records.specs.declared.Kind.{Kind}
use Rattle.records.specs.declared.Kind.TheVariants as kinds
use Rattle.records.specs.declared.Due.{Due}
use Rattle.records.specs.declared.Next.{Next}
use Rattle.records.specs.declared.Next.TheVariants.{One, End}
use Rattle.records.specs.Fields.{from_bytes, field_at}
use Rattle.records.specs.Marks.{body_width, kind_of, is_kind, is_due, kind_at, width_at, head_of}
use Rattle.records.specs.RecordLists.{at_record, next_at, next_of, ListFormat, ReadList, step_at, step_of, following, read_from, read_list}
use Rattle.records.specs.Marks.Laws.{body_most}
use Rattle.records.specs.RecordLists.Laws.{read_complete_law, read_step, step_more}

-- ---- the bytes of a start

pub drop_prefix : (i k : ℕ) (s : List ℕ) → drop i (take k s) ≡ take (k - i) (drop i s)
drop_prefix zero k s = let same : k ≡ k - 0 = omega arith in ap (λ (j : ℕ). take j s) same
drop_prefix (suc i) zero s = let none : 0 ≡ 0 - suc i = omega arith in ap (λ (j : ℕ). take j (drop (suc i) s)) none
drop_prefix (suc i) (suc k) [] = sym (take-nil (suc k - suc i))
drop_prefix (suc i) (suc k) (x ∷ s) =
    let same : k - i ≡ suc k - suc i = omega arith in
    drop_prefix i k s ∙ ap (λ (j : ℕ). take j (drop i s)) same

pub field_prefix : (place width k : ℕ) (s : List ℕ) → place + width ≤ k → field_at place width (take k s) ≡ field_at place width s
field_prefix place width k s h =
    ap (λ (l : List ℕ). from_bytes (take width l)) (drop_prefix place k s) ∙ ap from_bytes (take-take width (k - place) (drop place s) (omega arith))

short_prefix : (a k : ℕ) (s : List ℕ) → a ≤ k → ltb (length (take k s)) a ≡ ltb (length s) a
short_prefix a k s h =
    by_test (ltb (length s) a)
    (λ t. lt-ltb (length (take k s)) a (omega (arith, length-take k s, ltb-true (length s) a t)) ∙ sym t)
    (λ t. le-ltb (length (take k s)) a (omega (arith, length-take k s, ltb-false (length s) a t)) ∙ sym t)

-- no record is wider, of a KN or KW up to its mask
abbrev pub widest : ℕ
widest = 12

-- the kind of a record
pub kind_prefix : (k : ℕ) (s : List ℕ) → 2 ≤ k → kind_at (take k s) ≡ kind_at s
kind_prefix k s h = ap (λ (l : List ℕ). kind_of (from_bytes l)) (take-take 2 k s h)

-- the head of a record
pub head_prefix : (due : Due) (k : ℕ) (s : List ℕ) → widest ≤ k → head_of due (take k s) ≡ head_of due s
unfolding head_of
head_prefix due k s h =
    let m = from_bytes (take 2 s) in
    ap (λ (x : ℕ). head x (ltb (length (take k s)) 2) (ltb (length (take k s)) (2 + body_width (kind_of x)))) (ap from_bytes (take-take 2 k s (omega arith)))
    ∙ ap₂ (λ (a : Bool) (b : Bool). head m a b) (short_prefix 2 k s (omega arith)) (short_prefix (2 + body_width (kind_of m)) k s (omega (arith, body_most (kind_of m))))
  where
    head : ℕ → Bool → Bool → Result Kind Refusal
    head m a b = cond a (Err EndsTooSoon) (cond (not (is_due due (kind_of m))) (Err WrongMark) (cond b (Err EndsTooSoon) (Ok (kind_of m))))

-- ---- what is made of a record

-- the same is made of the two
pub record Alike {A B : Type 0} (g : A → Outcome B) (o o' : Outcome A) : Type 0 where
  pub same : and_then o g ≡ and_then o' g

module _ {A B : Type 0} {g : A → Outcome B} where
  pub no_other : {o : Outcome A} → Alike g o o
  no_other = record { same = refl }

  pub at_record_law : (h : Result Kind Refusal) {f f' : Kind → Outcome A} → ((kind : Kind) → Alike g (f kind) (f' kind)) → Alike g (at_record h f) (at_record h f')
  at_record_law (Err r) alike = no_other
  at_record_law (Ok kind) alike = alike kind

  pub by_cond : (t : Bool) {a a' b b' : Outcome A} → Alike g a a' → Alike g b b' → Alike g (cond t a b) (cond t a' b')
  by_cond true p q = p
  by_cond false p q = q

-- ---- a list, and what is made of it: so many bytes behind it matter

width_most : (s : List ℕ) → width_at s ≤ widest
width_most s = omega (arith, body_most (kind_at s))

module _ {S B : Type 0} (f : ListFormat S) (finish : ReadList S → Outcome B) (most : ℕ)
    (blind : (list : S) (rest : List ℕ) (j : ℕ) → most ≤ j → finish (record { list = list; rest = take j rest }) ≡ finish (record { list = list; rest = rest }))
    (own : (state : S) (k : ℕ) (s : List ℕ) → widest ≤ k → f.taken state (take k s) ≡ f.taken state s)
    (ends : (state : S) (k : ℕ) (s : List ℕ) → widest ≤ k → f.complete state (take k s) ≡ f.complete state s)
    (left : S → ℕ) (falls : (state : S) (s : List ℕ) (t : S) → f.complete state s ≡ false → f.taken state s ≡ yields t → left t < left state) where
  step_prefix : (state : S) (k : ℕ) (s : List ℕ) → widest ≤ k → step_of f state (take k s) ≡ step_of f state s
  unfolding step_of next_of
  step_prefix state k s h =
      ap₂ (λ (x : Result Next Refusal) (o : Outcome S). step_at x o)
      (ap (λ (x : Result Kind Refusal). next_at x (f.count state) (take k s)) (head_prefix (f.due state) k s h) ∙ counted (head_of (f.due state) s))
      (own state k s h)
    where
      counted : (x : Result Kind Refusal) → next_at x (f.count state) (take k s) ≡ next_at x (f.count state) s
      counted (Err r) = refl
      counted (Ok kind) =
          ap (λ (n : ℕ). cond (is_kind kinds.End kind) (cond (eqb n (f.count state)) (Ok End) (Err CountDiffers)) (Ok One)) (field_prefix 2 1 k s (omega arith))

  ends_alike : (state : S) (rest : List ℕ) (j : ℕ) → most ≤ j → Alike finish (yields (record { list = state; rest = take j rest })) (yields (record { list = state; rest = rest }))
  ends_alike state rest j h = record { same = blind state rest j h }

  -- one step, where what is read behind a record is alike
  module _ (bytes bytes' : ℕ) (state : S) (s : List ℕ) (k : ℕ) (all : length s ≤ bytes) (all' : length (take k s) ≤ bytes') (h : widest + most ≤ k)
      (later : (t : S) → f.complete state s ≡ false → f.taken state s ≡ yields t
      → Alike finish (read_from f (bytes' - 1) t (take (k - width_at s) (drop (width_at s) s))) (read_from f (bytes - 1) t (drop (width_at s) s))) where
    followed : f.complete state s ≡ false → (o : Outcome (Option S)) → step_of f state s ≡ o
        → Alike finish (and_then o (following f (read_from f (bytes' - 1)) state (take k s))) (and_then o (following f (read_from f (bytes - 1)) state s))
    followed going (refused r) e = no_other
    followed going (yields none) e =
        subst (λ (l : List ℕ). Alike finish (yields (record { list = state; rest = l })) (yields (record { list = state; rest = drop 3 s }))) (sym (drop_prefix 3 k s))
        (ends_alike state (drop 3 s) (k - 3) (omega arith))
    followed going (yields (some t)) e =
        subst (λ (l : List ℕ). Alike finish (read_from f (bytes' - 1) t l) (read_from f (bytes - 1) t (drop (width_at s) s)))
        (sym (ap (λ (kind : Kind). drop (2 + body_width kind) (take k s)) (kind_prefix k s (omega arith)) ∙ drop_prefix (width_at s) k s))
        (later t going (step_more f state s e).1)

    from_prefix : Alike finish (read_from f bytes' state (take k s)) (read_from f bytes state s)
    from_prefix =
        by_test (f.complete state s)
        (λ t. subst (λ (o : Outcome (ReadList S)). Alike finish o (read_from f bytes state s)) (sym (read_complete_law f bytes' state (take k s) (ends state k s (omega arith) ∙ t)))
        (subst (Alike finish (yields (record { list = state; rest = take k s }))) (sym (read_complete_law f bytes state s t)) (ends_alike state s k (omega arith))))
        (λ t. subst (λ (o : Outcome (ReadList S)). Alike finish o (read_from f bytes state s))
        (sym (read_step f bytes' state (take k s) all' (ends state k s (omega arith) ∙ t) ∙ ap (λ (o : Outcome (Option S)). and_then o (following f (read_from f (bytes' - 1)) state (take k s))) (step_prefix state k s (omega arith))))
        (subst (Alike finish (and_then (step_of f state s) (following f (read_from f (bytes' - 1)) state (take k s)))) (sym (read_step f bytes state s all t)) (followed t (step_of f state s) refl)))

  prefix_from : (more bytes bytes' : ℕ) (state : S) (s : List ℕ) (k : ℕ) → left state ≤ more → length s ≤ bytes → length (take k s) ≤ bytes'
      → widest * more + (widest + most) ≤ k → Alike finish (read_from f bytes' state (take k s)) (read_from f bytes state s)
  prefix_from zero bytes bytes' state s k few all all' h =
      from_prefix bytes bytes' state s k all all' (omega arith) (λ t going e. absurd (omega (arith, falls state s t going e)))
  prefix_from (suc more) bytes bytes' state s k few all all' h =
      from_prefix bytes bytes' state s k all all' (omega arith)
      (λ t going e. prefix_from more (bytes - 1) (bytes' - 1) t (drop (width_at s) s) (k - width_at s) (omega (arith, falls state s t going e))
      (omega (arith, length-drop (width_at s) s)) (omega (arith, length-take k s, length-drop (width_at s) s, length-take (k - width_at s) (drop (width_at s) s)))
      (omega (arith, width_most s)))

  pub list_prefix : (state : S) (s : List ℕ) (k : ℕ) → widest * left state + (widest + most) ≤ k
      → and_then (read_list f state (take k s)) finish ≡ and_then (read_list f state s) finish
  unfolding read_list
  list_prefix state s k h = (prefix_from (left state) (length s) (length (take k s)) state s k (omega arith) (omega arith) (omega arith) h).same
