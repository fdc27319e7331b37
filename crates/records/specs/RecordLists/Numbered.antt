-- Reading a list of records is refused with a number from 1 where taking each record is.
use Rattle.std.proofs.Math.Path.{refl}
use Rattle.std.specs.Prelude.{List, length, drop, Result, Ok, Err}
use Rattle.std.proofs.Math.Option.{Option, none, some}
use Prim.Native.Nat.{ℕ, zero, suc}
use Rattle.drive_sets.specs.declared.Refusal.{Refusal}
use Rattle.drive_sets.specs.Refusals.{Outcome, yields}
use Rattle.drive_sets.specs.Refusals.Numbered.{number_from_one, from_one, Numbered, result_numbered, either_numbered, then_numbered}
use Rattle.records.specs.declared.Kind.{Kind}
use Rattle.records.specs.declared.Next.{Next}
use Rattle.records.specs.declared.Next.TheVariants.{One, End}
use Rattle.records.specs.Marks.{width_at}
use Rattle.records.specs.RecordLists.{at_record, ListFormat, ReadList, step_at, step_of, following, next_of, read_from, read_list}

module _ {A : Type 0} where
  pub record_numbered : (h : Result Kind Refusal) (f : Kind → Outcome A) → ((k : Kind) → Numbered (f k)) → Numbered (at_record h f)
  unfolding from_one
  record_numbered (Err r) f each = record { from = number_from_one r }
  record_numbered (Ok k) f each = each k

module _ {S : Type 0} (f : ListFormat S) (taken_numbered : (state : S) (s : List ℕ) → Numbered (f.taken state s)) where
  step_numbered : (next : Result Next Refusal) {more : Outcome S} → Numbered more → Numbered (step_at next more)
  unfolding from_one
  step_numbered (Err r) h = record { from = number_from_one r }
  step_numbered (Ok End) h = result_numbered
  step_numbered (Ok One) {more} h = then_numbered more (λ state. yields (some state)) h (λ state. result_numbered)

  following_numbered : (later : S → List ℕ → Outcome (ReadList S)) → ((state : S) (s : List ℕ) → Numbered (later state s))
      → (state : S) (s : List ℕ) (o : Option S) → Numbered (following f later state s o)
  following_numbered later each state s none = result_numbered
  following_numbered later each state s (some next) = each next (drop (width_at s) s)

  from_numbered : (bytes : ℕ) (state : S) (s : List ℕ) → Numbered (read_from f bytes state s)
  unfolding read_from step_of from_one
  from_numbered zero state s = either_numbered (f.complete state s) result_numbered (record { from = refl })
  from_numbered (suc bytes) state s =
      either_numbered (f.complete state s) result_numbered
      (then_numbered (step_of f state s) (following f (read_from f bytes) state s)
      (step_numbered (next_of (f.due state) (f.count state) s) (taken_numbered state s))
      (following_numbered (read_from f bytes) (from_numbered bytes) state s))

  pub list_numbered : (state : S) (s : List ℕ) → Numbered (read_list f state s)
  unfolding read_list
  list_numbered state s = from_numbered (length s) state s
