-- Marks: two letters in ASCII at the start of each record, as a number; the kind of record that a mark starts; and what
-- is due where.
use Rattle.std.specs.Prelude.{Bool, not, ◌||◌, cond, List, [], ◌∷◌, ◌++◌, ℕ, ◌+◌, eqb, ltb, length, take, Result, Ok, Err}
use Prim.Native.String as text
use Prim.Native.String.{String}
use Prim.Native.Char.{code}
use Rattle.drive_sets.specs.declared.Refusal.{Refusal}
use Rattle.drive_sets.specs.declared.Refusal.TheVariants.{EndsTooSoon, WrongMark}
use Rattle.drive_sets.specs.Limits.{pattern_width, narrow_width}
use Rattle.records.specs.declared.Kind.{Kind}
use Rattle.records.specs.declared.Kind.TheVariants.{Frame, Survivor, Fault, Proposal, Crash, End, Known, Decide, WideProposal, WideKnown, WideDecide, Unknown}
use Rattle.records.specs.declared.Due.{Due}
use Rattle.records.specs.declared.Due.TheVariants.{AtRecord, AtRecordOrEnd, AtProposal, AtMessage}
use Rattle.records.specs.Fields.{from_bytes, to_bytes}
pub mod Laws

-- the bytes of a text
unfoldable pub ascii : String → List ℕ
ascii text.[] = []
ascii (text.◌∷◌ c s) = code c ∷ ascii s

-- the mark of each kind of record, and its number as a two-byte field
unfoldable pub mark_text : Kind → String
mark_text Frame = "FR"
mark_text Survivor = "SV"
mark_text Fault = "FL"
mark_text Proposal = "PR"
mark_text Crash = "CR"
mark_text End = "EN"
mark_text Known = "KN"
mark_text Decide = "DC"
mark_text WideProposal = "PW"
mark_text WideKnown = "KW"
mark_text WideDecide = "DW"
mark_text Unknown = ""

unfoldable pub mark : Kind → ℕ
mark k = from_bytes (ascii (mark_text k))

-- pattern numbers are narrow in PR, KN and DC, and wide in PW, KW and DW: two bytes, and four
pub data Form : Type 0 where
  narrow : Form
  wide : Form

abbrev pub width_in : Form → ℕ
width_in narrow = narrow_width
width_in wide = pattern_width

-- how many bytes a pattern number takes in a record of this kind; the others have none
unfoldable pub number_width : Kind → ℕ
number_width Frame = 0
number_width Survivor = 0
number_width Fault = 0
number_width Proposal = narrow_width
number_width Crash = 0
number_width End = 0
number_width Known = narrow_width
number_width Decide = narrow_width
number_width WideProposal = pattern_width
number_width WideKnown = pattern_width
number_width WideDecide = pattern_width
number_width Unknown = 0

-- how many bytes follow the mark; of a KN or KW up to its mask
unfoldable pub body_width : Kind → ℕ
body_width Frame = 1
body_width Survivor = 8
body_width Fault = 8
body_width Proposal = 1 + narrow_width
body_width Crash = 3
body_width End = 1
body_width Known = 10
body_width Decide = 2 + narrow_width
body_width WideProposal = 1 + pattern_width
body_width WideKnown = 10
body_width WideDecide = 2 + pattern_width
body_width Unknown = 0

-- the kind of record that a mark starts
unfoldable pub kind_of : ℕ → Kind
kind_of m =
    cond (eqb m (mark Frame)) Frame
    (cond (eqb m (mark Survivor)) Survivor
    (cond (eqb m (mark Fault)) Fault
    (cond (eqb m (mark Proposal)) Proposal
    (cond (eqb m (mark Crash)) Crash
    (cond (eqb m (mark End)) End
    (cond (eqb m (mark Known)) Known
    (cond (eqb m (mark Decide)) Decide
    (cond (eqb m (mark WideProposal)) WideProposal
    (cond (eqb m (mark WideKnown)) WideKnown
    (cond (eqb m (mark WideDecide)) WideDecide Unknown))))))))))

-- a kind is known by its mark
unfoldable pub is_kind : Kind → Kind → Bool
is_kind j k = eqb (mark k) (mark j)

-- a record of this kind may stand here
unfoldable pub is_due : Due → Kind → Bool
is_due (AtRecord one) k = is_kind one k
is_due (AtRecordOrEnd one) k = is_kind one k || is_kind End k
is_due AtProposal k = is_kind Proposal k || is_kind WideProposal k
is_due AtMessage k = (is_kind Known k || is_kind Decide k) || (is_kind WideKnown k || is_kind WideDecide k)

-- the kind of the record at the start of the bytes, and how many of them it has: of a KN or KW up to its mask
abbrev pub kind_at : List ℕ → Kind
kind_at s = kind_of (from_bytes (take 2 s))

abbrev pub width_at : List ℕ → ℕ
width_at s = 2 + body_width (kind_at s)

-- what stands at the start of the bytes: mark cut (1), unknown or in the wrong place (2), rest cut (1), or a record of
-- some kind
unfoldable pub head_of : Due → List ℕ → Result Kind Refusal
head_of due s =
    let k = kind_at s in
    cond (ltb (length s) 2) (Err EndsTooSoon)
    (cond (not (is_due due k)) (Err WrongMark)
    (cond (ltb (length s) (2 + body_width k)) (Err EndsTooSoon) (Ok k)))

-- a record of a mark and one field
unfoldable pub record_bytes : ℕ → ℕ → ℕ → List ℕ
record_bytes m width x = to_bytes 2 m ++ to_bytes width x
