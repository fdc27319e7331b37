-- A text put into a lent buffer from a starting place on, what an answer says of the bytes there, and what is printed
-- of a file.
use Rattle.std.specs.Prelude.{◌≡◌, List, ℕ, Result, Ok, Err}
use Rattle.drive_sets.specs.declared.Refusal.{Refusal}
use Rattle.drive_sets.specs.Filled.{Filled}
use Rattle.drive_sets.specs.Refusals.{Outcome, refused, yields, number}
use Rattle.lent_bytes.specs.LentBuffers.{WrittenIfRoom}
use Rattle.text.specs.Text.{refusal_line}

-- the answer and the lent bytes: only the text's own bytes change, and on a refusal none
abbrev pub Printed : List ℕ → ℕ → List ℕ → List ℕ → Result ℕ Refusal → Type 0
Printed text start old new r = WrittenIfRoom (yields text) start old new r

-- how many bytes an answer says were written: none on a refusal
abbrev pub bytes_in : Result ℕ Refusal → ℕ
bytes_in (Ok size) = size
bytes_in (Err r) = 0

-- a buffer and a number of bytes afterwards: as many as an answer says, and the buffer as it was, or the line of its
-- refusal over the first places
abbrev pub AnswerPut : Result ℕ Refusal → List ℕ → List ℕ → ℕ → Type 0
AnswerPut (Ok size) old new count = (new ≡ old) × (count ≡ size)
AnswerPut (Err r) old new count = Filled old new 0 count (refusal_line (number r))

-- what a program prints that writes a file: the file, or the line of a refusal
abbrev pub printed : Outcome (List ℕ) → List ℕ
printed (refused r) = refusal_line r
printed (yields file) = file
