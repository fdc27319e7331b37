-- Numbers as text, decimal or lowercase hexadecimal, without leading zeros; fields and lines made of them.
use Rattle.std.specs.Prelude.{cond, List, [], ◌∷◌, ◌++◌, ℕ, zero, suc, ◌+◌, ◌/◌, ◌%◌, ltb}
use denote.MutBor.{MutBor}
use Rattle.drive_sets.specs.Filled.{Filled}
use Rattle.records.specs.Marks.{ascii}
use Rattle.text.specs.declared.Base.{Base}
use Rattle.text.specs.declared.Base.TheVariants.{Decimal, Hexadecimal}

-- 0 to 9, then a, b, ..
unfoldable pub digit : ℕ → ℕ
digit d = cond (ltb d 10) (48 + d) (87 + d)

-- x in a base, of at most so many digits
unfoldable pub in_base : ℕ → ℕ → ℕ → List ℕ
in_base base zero x = []
in_base base (suc most) x =
    let last = digit (x % base) ∷ [] in
    let more = in_base base most (x / base) ++ last in
    cond (ltb x base) last more

unfoldable pub digits : Base → ℕ → List ℕ
digits Decimal x = in_base 10 20 x
digits Hexadecimal x = in_base 16 16 x

-- the texts of some values, one after the other
unfoldable pub joined : (ℕ → List ℕ) → List ℕ → List ℕ
joined text [] = []
joined text (x ∷ l) = text x ++ joined text l

-- a call that puts the text of a value from a place on, as `F.post` has it
abbrev pub PutsEach : (MutBor (List ℕ) → ℕ → ℕ → ℕ → MutBor (List ℕ) → Type 0) → (ℕ → List ℕ) → Type 0
PutsEach put text =
    (b next : MutBor (List ℕ)) (at x r : ℕ) → put b at x r next → Filled b.now next.now at r (text x)

-- a number with a space in front
unfoldable pub field : Base → ℕ → List ℕ
field base x = ascii " " ++ digits base x

unfoldable pub fields : Base → List ℕ → List ℕ
fields base l = joined (field base) l

-- a word and a field
unfoldable pub named : List ℕ → Base → ℕ → List ℕ
named word base x = word ++ field base x

-- a line of them
unfoldable pub line : List ℕ → Base → ℕ → List ℕ
line word base x = named word base x ++ ascii "\n"

-- a line for each value
unfoldable pub lines : List ℕ → Base → List ℕ → List ℕ
lines word base l = joined (line word base) l

unfoldable pub refusal_line : ℕ → List ℕ
refusal_line k = line (ascii "refused") Decimal k
