-- The line of what the call says.
use mathlib.Core.Path.{sym, ap}
use Rattle.drive_sets.specs.Filled.Laws.{filled_same}
use Rattle.verdict_lines.specs.VerdictLines.{verdict_line}
use Rattle.verdict_lines.proofs.put_verdict_on.Goals as goal

pub returns : goal.returns
returns c = filled_same (ap (verdict_line c.args.k) (sym c.verdict_on.ensures.says)) c.put_verdict.ensures
