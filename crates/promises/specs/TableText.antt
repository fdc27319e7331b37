-- What the table program prints of every table that is read. Document 01 has the lines of case A; document 02: "For a
-- frame of k drives or fewer the program prints `k`, the number and `few`, (..)".
use Rattle.std.specs.Prelude.{◌≡◌, cond, List, ◌++◌, ℕ, leb}
use Rattle.drive_sets.specs.Refusals.{yields}
use Rattle.records.specs.Marks.{ascii}
use Rattle.survivor_tables.specs.Tables.{cores, chosen}
use Rattle.text.specs.declared.Base.TheVariants.{Decimal, Hexadecimal}
use Rattle.text.specs.Text.{named, line, lines}
use Rattle.table_files.specs.Files.{ReadTable, read_whole}
use Rattle.verdict_search.specs.Verdicts.{verdict_on}
use Rattle.verdict_lines.specs.VerdictLines.{verdict_part}
use Rattle.table_listing.specs.TableListing.{table_program}

-- the line of the verdict on k: `few` for a frame of k drives or fewer, else the verdict
abbrev pub line_on : ℕ → ℕ → List ℕ → List ℕ
line_on k n table = named (ascii "k") Decimal k ++ cond (leb n k) (ascii " few\n") (verdict_part (verdict_on k n table))

unfoldable pub TableTextOfFile : Type 0
TableTextOfFile = (input : List ℕ) (t : ReadTable) → read_whole input ≡ yields t
    → table_program input
    ≡ line (ascii "drives") Decimal t.n
    ++ (lines (ascii "set") Hexadecimal t.sets
    ++ (lines (ascii "core") Hexadecimal (cores t.sets)
    ++ (line (ascii "chosen") Hexadecimal (chosen t.sets) ++ (line_on 2 t.n t.sets ++ (line_on 3 t.n t.sets ++ line_on 4 t.n t.sets)))))
