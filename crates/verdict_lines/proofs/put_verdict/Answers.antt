-- The head, then what the call says.
use mathlib.Core.Path.{ap}
use Rattle.std.specs.Prelude.{Result}
use Rattle.records.specs.Marks.{ascii}
use Rattle.drive_sets.specs.declared.Refusal.{Refusal}
use Rattle.drive_sets.specs.Filled.Laws.{filled_same}
use Rattle.text.proofs.Puts.{filled_both}
use Rattle.verdict_search.specs.declared.Verdict.{Verdict}
use Rattle.verdicts.specs.Held.{judgement_of}
use Rattle.verdict_lines.specs.VerdictLines.{verdict_line}
use borrow.Author.Rules.{rules}
use Rattle.verdict_lines.proofs.put_verdict.Goals as goal

pub returns-in-Ok : goal.returns-in-Ok
unfolding verdict_line ascii
returns-in-Ok c =
    filled_same (ap (λ (r : Result Verdict Refusal). verdict_line c.args.k (judgement_of r c.args.k)) c.in-Ok.is)
    (filled_both (search rules) (rw c.from.ensures at c.put_named-headed.ensures) c.put_held.ensures)

pub returns-in-Err : goal.returns-in-Err
unfolding verdict_line ascii
returns-in-Err c =
    filled_same (ap (λ (r : Result Verdict Refusal). verdict_line c.args.k (judgement_of r c.args.k)) c.in-Err.is)
    (filled_both (search rules) (rw c.from.ensures at c.put_named-headed.ensures) c.put_all.ensures)
