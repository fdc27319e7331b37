-- Lists of records, read from left to right: a list ends by itself, or with EN and the count of its records.
use Rattle.std.specs.Prelude.{Bool, cond, List, [], ◌∷◌, ◌++◌, ℕ, zero, suc, ◌+◌, eqb, length, drop, Result, Ok, Err}
use Rattle.std.proofs.Math.Option.{Option, none, some}
use Rattle.drive_sets.specs.declared.Refusal.{Refusal}
use Rattle.drive_sets.specs.declared.Refusal.TheVariants.{EndsTooSoon, CountDiffers}
use Rattle.drive_sets.specs.Refusals.{Outcome, refused, yields, and_then, number}
use Rattle.records.specs.declared.Kind.{Kind}
use Rattle.records.specs.declared.Kind.TheVariants as kinds
use Rattle.records.specs.declared.Due.{Due}
use Rattle.records.specs.declared.Next.{Next}
use Rattle.records.specs.declared.Next.TheVariants.{One, End}
use Rattle.records.specs.Fields.{field_at}
use Rattle.records.specs.Marks.{mark, body_width, is_kind, width_at, head_of, record_bytes}
pub mod Laws
pub mod Written
pub mod Numbered
pub mod Prefixes

-- what the function makes of the kind of record that is there
module _ {A : Type 0} where
  abbrev pub at_record : Result Kind Refusal → (Kind → Outcome A) → Outcome A
  at_record (Err r) f = refused (number r)
  at_record (Ok k) f = f k

-- where a record of a list or its end is due, behind so many records: a refusal of the mark or of a cut record, EN,
-- whose count must be theirs (6), or one record more
abbrev pub next_at : Result Kind Refusal → ℕ → List ℕ → Result Next Refusal
next_at (Err r) count s = Err r
next_at (Ok k) count s = cond (is_kind kinds.End k) (cond (eqb (field_at 2 1 s) count) (Ok End) (Err CountDiffers)) (Ok One)

unfoldable pub next_of : Due → ℕ → List ℕ → Result Next Refusal
next_of due count s = next_at (head_of due s) count s

-- how a list of records is read. A state is what was read so far: what is due in it, how many records are listed,
-- whether the list ends by itself at these bytes, and what the record at their start makes of it
pub record ListFormat (S : Type 0) : Type 0 where
  pub due : S → Due
  pub count : S → ℕ
  pub complete : S → List ℕ → Bool
  pub taken : S → List ℕ → Outcome S

-- what is read, and the bytes behind it
pub record ReadList (S : Type 0) : Type 0 where
  pub list : S
  pub rest : List ℕ

module _ {S : Type 0} where
  -- one step: a refusal, none at the end, or the next state
  abbrev pub step_at : Result Next Refusal → Outcome S → Outcome (Option S)
  step_at (Err r) more = refused (number r)
  step_at (Ok End) more = yields none
  step_at (Ok One) more = and_then more (λ state. yields (some state))

  unfoldable pub step_of : ListFormat S → S → List ℕ → Outcome (Option S)
  step_of f state s = step_at (next_of (f.due state) (f.count state) s) (f.taken state s)

  -- what follows a step: what is read so far and what stands behind EN, or the records behind this one
  abbrev pub following : ListFormat S → (S → List ℕ → Outcome (ReadList S)) → S → List ℕ → Option S → Outcome (ReadList S)
  following f later state s none = yields (record { list = state; rest = drop 3 s })
  following f later state s (some next) = later next (drop (width_at s) s)

  -- the records from a state on; the number is at least that of the bytes, so where it is zero they have ended
  unfoldable pub read_from : ListFormat S → ℕ → S → List ℕ → Outcome (ReadList S)
  read_from f zero state s =
      cond (f.complete state s) (yields (record { list = state; rest = s })) (refused (number EndsTooSoon))
  read_from f (suc bytes) state s =
      let next = and_then (step_of f state s) (following f (read_from f bytes) state s) in
      cond (f.complete state s) (yields (record { list = state; rest = s })) next

  -- the whole list
  unfoldable pub read_list : ListFormat S → S → List ℕ → Outcome (ReadList S)
  read_list f state s = read_from f (length s) state s

-- the records of one field each, one behind the other
unfoldable pub list_bytes : Kind → List ℕ → List ℕ
list_bytes kind [] = []
list_bytes kind (x ∷ xs) = record_bytes (mark kind) (body_width kind) x ++ list_bytes kind xs
