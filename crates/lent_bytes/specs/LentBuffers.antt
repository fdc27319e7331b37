-- What a call that writes bytes into a lent buffer answers, and what it leaves there.
use Rattle.std.specs.Prelude.{◌≡◌, List, ℕ, length, Result}
use Rattle.drive_sets.specs.declared.Refusal.{Refusal}
use Rattle.drive_sets.specs.Refusals.{Outcome, and_then, outcome}
use Rattle.drive_sets.specs.Lent.{fitting, size_written, buffer_after}

-- how many bytes, or the refusal, and the lent bytes, each as what is due has it
pub record Written (due : Outcome (List ℕ)) (start : ℕ) (old new : List ℕ) (r : Result ℕ Refusal) : Type 0 where
  pub answer : outcome r ≡ size_written due
  pub buffer : new ≡ buffer_after due start old

-- the same where the room is looked at last
abbrev pub WrittenIfRoom : Outcome (List ℕ) → ℕ → List ℕ → List ℕ → Result ℕ Refusal → Type 0
WrittenIfRoom due start old new r = Written (and_then due (fitting start (length old))) start old new r
