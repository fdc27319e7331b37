-- The lines of the verdicts on 2, 3 and 4. Document 02: "For a frame of k drives or fewer the program prints `k`, the
-- number and `few`, (..)". Such a frame is refused with 33, and an accepted table with nothing else (Laws: `few_line`,
-- `more_line`).
use Rattle.std.specs.Prelude.{List, ◌++◌, ℕ}
use Rattle.drive_sets.specs.Refusals.{Outcome, refused, yields}
use Rattle.records.specs.Marks.{ascii}
use Rattle.verdict_search.specs.Verdicts.{Verdict, yes, no}
use Rattle.verdicts.specs.Calls.{verdict_given}
use Rattle.text.specs.declared.Base.TheVariants.{Decimal, Hexadecimal}
use Rattle.text.specs.Text.{fields, named}
pub mod Laws

-- a no with its positions and blocks, to the line's end
unfoldable pub no_part : List ℕ → List ℕ → List ℕ
no_part positions blocks = ascii " no sets" ++ (fields Decimal positions ++ (ascii " blocks" ++ (fields Hexadecimal blocks ++ ascii "\n")))

unfoldable pub verdict_part : Verdict → List ℕ
verdict_part yes = ascii " yes\n"
verdict_part (no positions blocks) = no_part positions blocks

-- what a call says, to the line's end
abbrev pub answer_part : Outcome Verdict → List ℕ
answer_part (refused r) = ascii " few\n"
answer_part (yields v) = verdict_part v

unfoldable pub verdict_line : ℕ → Outcome Verdict → List ℕ
verdict_line k o = named (ascii "k") Decimal k ++ answer_part o

-- the verdicts on 2, 3 and 4
unfoldable pub verdict_lines : ℕ → List ℕ → List ℕ
verdict_lines n table = verdict_line 2 (verdict_given 2 n table) ++ (verdict_line 3 (verdict_given 3 n table) ++ verdict_line 4 (verdict_given 4 n table))
