-- The limits of document 01, each named once: how many drives, sets and cores there are at most, how wide a pattern
-- number is, and how much of an input and of a text there is.
use Rattle.std.specs.Prelude.{ℕ}

abbrev pub max_drives : ℕ
max_drives = 64

abbrev pub max_sets : ℕ
max_sets = 128

abbrev pub max_cores : ℕ
max_cores = 1024

-- how many bytes a pattern number takes, and the first that does not fit; narrow ones, of old records, take fewer
abbrev pub pattern_width : ℕ
pattern_width = 4

abbrev pub pattern_limit : ℕ
pattern_limit = 4294967296

abbrev pub narrow_width : ℕ
narrow_width = 2

-- the bytes of an input that a program reads, and the longest text that one prints
abbrev pub max_input : ℕ
max_input = 4096

abbrev pub max_text : ℕ
max_text = 32768
