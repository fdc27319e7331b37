-- Laws of marks and records: a mark is read back as its kind, and a record that was written is found where it is due,
-- with its field and what stands behind it.
use Rattle.std.specs.Prelude.{◌≡◌, refl, true, not, ℕ, ◌+◌, ◌^◌, ◌≤◌, ◌<◌, length, take, drop, ltb, Ok, Err}
use Rattle.std.proofs.Common.{sym, ◌∙◌, subst, arith, length-append, take_at, drop_at, le-ltb, ltb-false, eqb-true}
use Rattle.std.proofs.Math.Path.{ap}
use mathlib.Core.List.{List, ◌++◌, append_assoc}
use Rattle.std.proofs.lemmas.Bool.{not-false}
use Rattle.drive_sets.specs.Bools.Laws.{by_test, cond_true, cond_false}
use Rattle.drive_sets.specs.declared.Refusal.{Refusal}
use Rattle.drive_sets.specs.Limits.{narrow_width, pattern_width, pattern_limit}
use Rattle.records.specs.declared.Due.{Due}
use Rattle.records.specs.declared.Kind.{Kind}
use Rattle.records.specs.declared.Kind.TheVariants.{Frame, Survivor, Fault, Proposal, Crash, End, Known, Decide, WideProposal, WideKnown, WideDecide, Unknown}
use Rattle.records.specs.Fields.{Bytes, from_bytes, field_at, to_bytes}
use Rattle.records.specs.Fields.Laws.{length_to_bytes, field_back, field_lt}
use Rattle.records.specs.Marks.{ascii, mark_text, mark, number_width, body_width, kind_of, is_kind, is_due, kind_at, head_of, record_bytes}

pub kind_mark : (k : Kind) → kind_of (mark k) ≡ k
unfolding kind_of mark mark_text ascii from_bytes
kind_mark Frame = refl
kind_mark Survivor = refl
kind_mark Fault = refl
kind_mark Proposal = refl
kind_mark Crash = refl
kind_mark End = refl
kind_mark Known = refl
kind_mark Decide = refl
kind_mark WideProposal = refl
kind_mark WideKnown = refl
kind_mark WideDecide = refl
kind_mark Unknown = refl

pub mark_lt : (k : Kind) → mark k < 256 ^ 2
unfolding mark mark_text ascii from_bytes
mark_lt Frame = omega arith
mark_lt Survivor = omega arith
mark_lt Fault = omega arith
mark_lt Proposal = omega arith
mark_lt Crash = omega arith
mark_lt End = omega arith
mark_lt Known = omega arith
mark_lt Decide = omega arith
mark_lt WideProposal = omega arith
mark_lt WideKnown = omega arith
mark_lt WideDecide = omega arith
mark_lt Unknown = omega arith

pub number_most : (k : Kind) → number_width k ≤ pattern_width
unfolding number_width
number_most Frame = omega arith
number_most Survivor = omega arith
number_most Fault = omega arith
number_most Proposal = omega arith
number_most Crash = omega arith
number_most End = omega arith
number_most Known = omega arith
number_most Decide = omega arith
number_most WideProposal = omega arith
number_most WideKnown = omega arith
number_most WideDecide = omega arith
number_most Unknown = omega arith

-- a number takes four bytes, two or none
pub number_narrow : (k : Kind) → (number_width k ≡ pattern_width → ⊥) → (number_width k ≡ narrow_width → ⊥) → number_width k ≡ 0
unfolding number_width
number_narrow Frame wide narrow = refl
number_narrow Survivor wide narrow = refl
number_narrow Fault wide narrow = refl
number_narrow Proposal wide narrow = absurd (narrow refl)
number_narrow Crash wide narrow = refl
number_narrow End wide narrow = refl
number_narrow Known wide narrow = absurd (narrow refl)
number_narrow Decide wide narrow = absurd (narrow refl)
number_narrow WideProposal wide narrow = absurd (wide refl)
number_narrow WideKnown wide narrow = absurd (wide refl)
number_narrow WideDecide wide narrow = absurd (wide refl)
number_narrow Unknown wide narrow = refl

-- a number that is read from bytes is a pattern number
pub number_lt : (k : Kind) (place : ℕ) (s : List ℕ) → Bytes s → field_at place (number_width k) s < pattern_limit
number_lt k place s = field_lt place (number_width k) pattern_width s (number_most k)

pub body_most : (k : Kind) → body_width k ≤ 10
unfolding body_width
body_most Frame = omega arith
body_most Survivor = omega arith
body_most Fault = omega arith
body_most Proposal = omega arith
body_most Crash = omega arith
body_most End = omega arith
body_most Known = omega arith
body_most Decide = omega arith
body_most WideProposal = omega arith
body_most WideKnown = omega arith
body_most WideDecide = omega arith
body_most Unknown = omega arith

pub length_record : (m width x : ℕ) → length (record_bytes m width x) ≡ 2 + width
unfolding record_bytes
length_record m width x = length-append (to_bytes 2 m) (to_bytes width x) ∙ omega (arith, length_to_bytes 2 m, length_to_bytes width x)

-- what was written, with anything behind it
module _ (m width x : ℕ) (rest : List ℕ) where
  pub record_field : x < 256 ^ width → from_bytes (take width (drop 2 (record_bytes m width x ++ rest))) ≡ x
  unfolding record_bytes
  record_field h =
      ap (λ (l : List ℕ). from_bytes (take width (drop 2 l))) (append_assoc (to_bytes 2 m) (to_bytes width x) rest)
      ∙ (ap (λ (l : List ℕ). from_bytes (take width l)) (drop_at (to_bytes 2 m) (to_bytes width x ++ rest) 2 (length_to_bytes 2 m))
      ∙ (ap from_bytes (take_at (to_bytes width x) rest width (length_to_bytes width x)) ∙ field_back width x h))

  pub record_rest : drop (2 + width) (record_bytes m width x ++ rest) ≡ rest
  record_rest = drop_at (record_bytes m width x) rest (2 + width) (length_record m width x)

-- a mark that is due, and behind it at least as many bytes as its kind asks for
pub head_body : (due : Due) (k : Kind) (body : List ℕ) → is_due due k ≡ true → body_width k ≤ length body → head_of due (to_bytes 2 (mark k) ++ body) ≡ Ok k
unfolding head_of
head_body due k body d long =
    cond_false _ _ (le-ltb (length s) 2 (omega (arith, whole)))
    ∙ (cond_false _ _ (ap not (ap (is_due due) is_kind_law ∙ d))
    ∙ (cond_false _ _ (le-ltb (length s) (2 + body_width (kind_at s)) (omega (arith, whole, ap body_width is_kind_law))) ∙ ap Ok is_kind_law))
  where
    s : List ℕ
    s = to_bytes 2 (mark k) ++ body

    whole : length s ≡ 2 + length body
    whole = length-append (to_bytes 2 (mark k)) body ∙ ap (λ (w : ℕ). w + length body) (length_to_bytes 2 (mark k))

    is_mark : from_bytes (take 2 s) ≡ mark k
    is_mark = ap from_bytes (take_at (to_bytes 2 (mark k)) body 2 (length_to_bytes 2 (mark k))) ∙ field_back 2 (mark k) (mark_lt k)

    is_kind_law : kind_at s ≡ k
    is_kind_law = ap kind_of is_mark ∙ kind_mark k

pub head_record : (due : Due) (k : Kind) (x : ℕ) (rest : List ℕ) → is_due due k ≡ true
    → head_of due (record_bytes (mark k) (body_width k) x ++ rest) ≡ Ok k
unfolding record_bytes
head_record due k x rest d =
    ap (head_of due) (append_assoc (to_bytes 2 (mark k)) (to_bytes (body_width k) x) rest)
    ∙ head_body due k (to_bytes (body_width k) x ++ rest) d
    (omega (arith, length-append (to_bytes (body_width k) x) rest, length_to_bytes (body_width k) x))

-- ---- what is found is due

record_not_refused : {r : Refusal} {k : Kind} → Err r ≡ Ok k → ⊥
record_not_refused e = let z : ◌≡◌ {A = ℕ} 0 1 = cc in omega arith

-- the record found: its mark is due, and its body is there
pub record Present (due : Due) (s : List ℕ) (k : Kind) : Type 0 where
  pub is : kind_at s ≡ k
  pub is_due_law : is_due due k ≡ true
  pub long : 2 + body_width k ≤ length s

pub head_present : (due : Due) (s : List ℕ) (k : Kind) → head_of due s ≡ Ok k → Present due s k
unfolding head_of
head_present due s k e =
    by_test (ltb (length s) 2)
    (λ h. absurd (record_not_refused (sym (cond_true _ _ h) ∙ e)))
    (λ h. by_test (not (is_due due (kind_of m)))
    (λ n. absurd (record_not_refused (sym (cond_false _ _ h ∙ cond_true _ _ n) ∙ e)))
    (λ n. by_test (ltb (length s) (2 + body_width (kind_of m)))
    (λ b. absurd (record_not_refused (sym (cond_false _ _ h ∙ (cond_false _ _ n ∙ cond_true _ _ b)) ∙ e)))
    (λ b. let found : Ok (kind_of m) ≡ Ok k = sym (cond_false _ _ h ∙ (cond_false _ _ n ∙ cond_false _ _ b)) ∙ e in
    let kind : kind_of m ≡ k = cc in
    record {
      is = kind;
      is_due_law = ap (is_due due) (sym kind) ∙ not-false (is_due due (kind_of m)) n;
      long = subst (λ (j : Kind). 2 + body_width j ≤ length s) kind (ltb-false (length s) (2 + body_width (kind_of m)) b);
    })))
  where
    m : ℕ
    m = from_bytes (take 2 s)

-- a kind is known by its mark
pub kind_is : (j k : Kind) → is_kind j k ≡ true → k ≡ j
unfolding is_kind
kind_is j k e = sym (kind_mark k) ∙ (ap kind_of (eqb-true (mark k) (mark j) e) ∙ kind_mark j)
