-- The threshold program: from n and t, one byte each, to the file of the table, or the line of a refusal.
use Rattle.std.specs.Prelude.{List, ℕ, ltb, length, get_or}
use Rattle.drive_sets.specs.declared.Refusal.TheVariants.{EndsTooSoon, TrailingBytes}
use Rattle.drive_sets.specs.Refusals.{Outcome, refuse_if, and_then}
use Rattle.table_writing.specs.Writing.{write_table}
use Rattle.text.specs.Printing.{printed}
use Rattle.threshold.specs.Threshold.{threshold_list}

-- the table of n and t as the writer writes it
unfoldable pub threshold_file : ℕ → ℕ → Outcome (List ℕ)
threshold_file n t = and_then (threshold_list n t) (write_table n)

-- what the bytes on the input ask for: 1 for too few, 7 for too many
unfoldable pub asked : List ℕ → Outcome (List ℕ)
asked input =
    refuse_if (ltb (length input) 2) EndsTooSoon
    (refuse_if (ltb 2 (length input)) TrailingBytes
    (threshold_file (get_or input 0 0) (get_or input 1 0)))

-- what the threshold program prints for the bytes on its input
unfoldable pub threshold_program : List ℕ → List ℕ
threshold_program input = printed (asked input)
