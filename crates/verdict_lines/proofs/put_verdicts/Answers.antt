-- Three lines.
use Rattle.verdict_lines.specs.VerdictLines.{verdict_lines}
use Rattle.text.proofs.Puts.{filled_both}
use borrow.Author.Rules.{rules}
use Rattle.verdict_lines.proofs.put_verdicts.Goals as goal

pub returns : goal.returns
unfolding verdict_lines
returns c = filled_both (search rules) c.put_verdict_on-two.ensures (filled_both (search rules) c.put_verdict_on-three.ensures c.put_verdict_on.ensures)
