-- Of an accepted table: `few` for a frame of k drives or fewer, and for every other frame the verdict.
use Rattle.std.specs.Prelude.{◌≡◌, List, ◌++◌, ℕ, ◌≤◌, ◌<◌}
use Rattle.std.proofs.Math.Path.{ap}
use Rattle.drive_sets.specs.Refusals.{Outcome}
use Rattle.records.specs.Marks.{ascii}
use Rattle.survivor_tables.specs.Tables.{Accepted}
use Rattle.verdict_search.specs.Verdicts.{Verdict, verdict_on}
use Rattle.verdicts.specs.Calls.{verdict_given}
use Rattle.verdicts.specs.Calls.Laws.{given_few, given_more}
use Rattle.text.specs.declared.Base.TheVariants.{Decimal}
use Rattle.text.specs.Text.{named}
use Rattle.verdict_lines.specs.VerdictLines.{verdict_part, answer_part, verdict_line}

module _ (k n : ℕ) (table : List ℕ) (low : 2 ≤ k) (high : k ≤ 4) (accepted : Accepted n table) where
  pub few_line : n ≤ k → verdict_line k (verdict_given k n table) ≡ named (ascii "k") Decimal k ++ ascii " few\n"
  unfolding verdict_line
  few_line few = ap (λ (o : Outcome Verdict). named (ascii "k") Decimal k ++ answer_part o) (given_few k n table low high accepted few)

  pub more_line : k < n → verdict_line k (verdict_given k n table) ≡ named (ascii "k") Decimal k ++ verdict_part (verdict_on k n table)
  unfolding verdict_line
  more_line more = ap (λ (o : Outcome Verdict). named (ascii "k") Decimal k ++ answer_part o) (given_more k n table low high accepted more)
