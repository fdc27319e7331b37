-- How long the lines of the verdicts can be, whatever the table is.
use mathlib.Core.Path.{◌≡◌, refl, ap, ◌∙◌}
use mathlib.Core.List.{List, ◌++◌}
use Prim.Native.Nat.{ℕ, ◌≤◌}
use native.Mathlib.Omega.{arith}
use lib.ListN.{length, length-append}
use Rattle.drive_sets.specs.Refusals.{Outcome, refused, yields}
use Rattle.records.specs.Marks.{ascii}
use Rattle.verdict_search.specs.Verdicts.{Verdict, yes, no}
use Rattle.verdicts.specs.Calls.{verdict_given}
use Rattle.verdicts.specs.Calls.Laws.{given_counts}
use Rattle.text.specs.declared.Base.TheVariants.{Decimal, Hexadecimal}
use Rattle.text.specs.Text.{fields, named}
use Rattle.text.proofs.Lengths.{fields_length, named_length}
use Rattle.verdict_lines.specs.VerdictLines.{no_part, verdict_part, answer_part, verdict_line, verdict_lines}

no_length : (ps blocks : List ℕ) → length ps ≤ 4 → length blocks ≤ 4 → length (no_part ps blocks) ≤ 184
unfolding no_part ascii
no_length ps blocks few parts =
    let places = fields Decimal ps in
    let masks = fields Hexadecimal blocks in
    let end = ascii " blocks" ++ (masks ++ ascii "\n") in
    omega (
      arith,
      fields_length Decimal ps,
      fields_length Hexadecimal blocks,
      length-append masks (ascii "\n"),
      length-append places end,
    )

part_length : (v : Verdict) → ((ps blocks : List ℕ) → v ≡ no ps blocks → (length ps ≤ 4) × (length blocks ≤ 4)) → length (verdict_part v) ≤ 184
unfolding verdict_part ascii
part_length yes few = omega arith
part_length (no ps blocks) few = let counts = few ps blocks refl in no_length ps blocks counts.0 counts.1

line_length : (k n : ℕ) (table : List ℕ) → length (verdict_line k (verdict_given k n table)) ≤ 206
unfolding verdict_line ascii
line_length k n table =
    omega (
      arith,
      named_length (ascii "k") Decimal k,
      length-append (named (ascii "k") Decimal k) (answer_part (verdict_given k n table)),
      part (verdict_given k n table) refl,
    )
  where
    part : (o : Outcome Verdict) → verdict_given k n table ≡ o → length (answer_part o) ≤ 184
    part (refused r) e = omega arith
    part (yields v) e = part_length v (λ ps blocks f. given_counts k n table (e ∙ ap (λ (x : Verdict). yields x) f))

pub verdict_lines_length : (n : ℕ) (table : List ℕ) → length (verdict_lines n table) ≤ 618
unfolding verdict_lines
verdict_lines_length n table =
    let two = verdict_line 2 (verdict_given 2 n table) in
    let three = verdict_line 3 (verdict_given 3 n table) in
    let four = verdict_line 4 (verdict_given 4 n table) in
    omega (
      arith,
      line_length 2 n table,
      line_length 3 n table,
      line_length 4 n table,
      length-append three four,
      length-append two (three ++ four),
    )
