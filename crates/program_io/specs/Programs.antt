-- What a program prints, from the first bytes of an input.
use Rattle.std.specs.Prelude.{◌≡◌, ◌≤◌, List, ℕ, length, take}
use Rattle.drive_sets.specs.Limits.{max_text}

-- no text of the program is too long, and the first bytes of an input, so many, say what it prints
abbrev pub ReadsFirst : ℕ → (List ℕ → List ℕ) → Type 0
ReadsFirst most program = (input : List ℕ) → (length (program input) ≤ max_text) × (program (take most input) ≡ program input)
