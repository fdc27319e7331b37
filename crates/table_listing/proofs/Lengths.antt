-- How long the text of the table program can be.
use mathlib.Core.Path.{◌≡◌, refl, sym, subst}
use mathlib.Core.List.{List, ◌++◌}
use Prim.Native.Nat.{ℕ, ◌≤◌}
use native.Mathlib.Omega.{arith}
use lib.ListN.{length, length-append}
use Rattle.drive_sets.specs.Refusals.{Outcome, refused, yields}
use Rattle.records.specs.Marks.{ascii}
use Rattle.survivor_tables.specs.Tables.{cores, chosen, Accepted}
use Rattle.survivor_tables.proofs.Tables.Laws.{accepted_normal}
use Rattle.table_files.specs.Files.{ReadTable, read_whole}
use Rattle.table_files.specs.Files.Laws.{table_read_law, whole_table}
use Rattle.survivor_tables.specs.Order.{normal}
use Rattle.text.specs.declared.Base.TheVariants.{Decimal, Hexadecimal}
use Rattle.text.specs.Text.{line, lines}
use Rattle.text.proofs.Lengths.{line_length, lines_length, refusal_length}
use Rattle.table_listing.specs.TableListing.{listing, listing_of, table_program}
use Rattle.verdict_lines.specs.VerdictLines.{verdict_lines}
use Rattle.verdict_lines.proofs.Lengths.{verdict_lines_length}
use Rattle.drive_sets.specs.Limits.{max_text, max_cores}

module _ (n : ℕ) (table : List ℕ) (accepted : Accepted n table) where
  listing_length : length (cores table) ≤ max_cores → length (listing n table) ≤ max_text
  unfolding listing ascii
  listing_length few =
      let drives = line (ascii "drives") Decimal n in
      let sets = lines (ascii "set") Hexadecimal table in
      let groups = lines (ascii "core") Hexadecimal (cores table) in
      let first = line (ascii "chosen") Hexadecimal (chosen table) in
      let verdicts = verdict_lines n table in
      omega (
        arith,
        few,
        accepted.most,
        line_length (ascii "drives") Decimal n,
        lines_length (ascii "set") Hexadecimal table,
        lines_length (ascii "core") Hexadecimal (cores table),
        line_length (ascii "chosen") Hexadecimal (chosen table),
        verdict_lines_length n table,
        length-append first verdicts,
        length-append groups (first ++ verdicts),
        length-append sets (groups ++ (first ++ verdicts)),
        length-append drives (sets ++ (groups ++ (first ++ verdicts))),
      )

-- the text of the table program, whatever its input
pub program_length : (s : List ℕ) → length (table_program s) ≤ max_text
unfolding table_program
program_length s = go (read_whole s) refl
  where
    go : (o : Outcome ReadTable) → read_whole s ≡ o → length (listing_of o) ≤ max_text
    go (refused r) e = refusal_length r
    go (yields t) e =
        let w = table_read_law s t (whole_table s t e).0 in
        subst (λ (l : List ℕ). length (listing t.n l) ≤ max_text) (sym w.2)
        (listing_length t.n (normal w.0) (accepted_normal t.n w.0 w.1) w.1.few_cores)
