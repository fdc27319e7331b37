-- The text of the table program: the drives, the sets of the normal table, the cores, the chosen core, and the verdicts
-- on 2, 3 and 4. On a refusal only `refused` and its number.
use Rattle.std.specs.Prelude.{List, ◌++◌, ℕ}
use Rattle.drive_sets.specs.Refusals.{Outcome, refused, yields}
use Rattle.records.specs.Marks.{ascii}
use Rattle.survivor_tables.specs.Tables.{cores, chosen}
use Rattle.table_files.specs.Files.{ReadTable, read_whole}
use Rattle.verdict_lines.specs.VerdictLines.{verdict_lines}
use Rattle.text.specs.declared.Base.TheVariants.{Decimal, Hexadecimal}
use Rattle.text.specs.Text.{line, lines, refusal_line}
pub mod Prefixes

-- the listing of a normal table
unfoldable pub listing : ℕ → List ℕ → List ℕ
listing n table =
    line (ascii "drives") Decimal n
    ++ (lines (ascii "set") Hexadecimal table
    ++ (lines (ascii "core") Hexadecimal (cores table) ++ (line (ascii "chosen") Hexadecimal (chosen table) ++ verdict_lines n table)))

abbrev pub listing_of : Outcome ReadTable → List ℕ
listing_of (refused r) = refusal_line r
listing_of (yields t) = listing t.n t.sets

-- what the table program prints for the bytes on its input
unfoldable pub table_program : List ℕ → List ℕ
table_program input = listing_of (read_whole input)
