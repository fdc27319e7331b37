-- A table that is read is accepted, so that its verdicts meet 33 or nothing.
use mathlib.Core.Path.{◌≡◌, sym, ap, ◌∙◌, subst}
use mathlib.Core.List.{List, ◌++◌}
use Prim.Native.Nat.{ℕ, ◌≤◌}
use native.Mathlib.Omega.{arith}
use lib.Dec.{leb}
use borrow.Author.Tests.{leb-true, leb-false}
use Rattle.drive_sets.specs.Bools.Laws.{by_test, cond_true, cond_false}
use Rattle.records.specs.Marks.{ascii}
use Rattle.survivor_tables.specs.Tables.{Accepted}
use Rattle.survivor_tables.proofs.Tables.Laws.{accepted_normal}
use Rattle.text.specs.declared.Base.TheVariants.{Decimal}
use Rattle.text.specs.Text.{named}
use Rattle.table_files.specs.Files.Laws.{table_read_law, whole_table}
use Rattle.verdicts.specs.Calls.{verdict_given}
use Rattle.verdict_lines.specs.VerdictLines.{verdict_line, verdict_lines}
use Rattle.verdict_lines.specs.VerdictLines.Laws.{few_line, more_line}
use Rattle.table_listing.specs.TableListing.{listing, table_program}
use Rattle.promises.specs.TableText.{line_on, TableTextOfFile}

module _ (n : ℕ) (table : List ℕ) (accepted : Accepted n table) where
  line_on_law : (k : ℕ) → 2 ≤ k → k ≤ 4 → verdict_line k (verdict_given k n table) ≡ line_on k n table
  line_on_law k low high =
      by_test (leb n k)
      (λ h. few_line k n table low high accepted (leb-true n k h) ∙ sym (ap (λ (l : List ℕ). named (ascii "k") Decimal k ++ l) (cond_true _ _ h)))
      (λ h. more_line k n table low high accepted (leb-false n k h) ∙ sym (ap (λ (l : List ℕ). named (ascii "k") Decimal k ++ l) (cond_false _ _ h)))

pub table_text_of_file : TableTextOfFile
unfolding TableTextOfFile table_program listing verdict_lines
table_text_of_file input t e =
    let read = table_read_law input t (whole_table input t e).0 in
    let accepted = subst (Accepted t.n) (sym read.2) (accepted_normal t.n read.0 read.1) in
    let on = line_on_law t.n t.sets accepted in
    rw (e, on 2 (omega arith) (omega arith), on 3 (omega arith) (omega arith), on 4 (omega arith) (omega arith))
