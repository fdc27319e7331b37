-- The positions, then the blocks, each behind its words.
use Rattle.records.specs.Marks.{ascii}
use Rattle.text.proofs.Puts.{filled_both}
use Rattle.verdict_lines.specs.VerdictLines.{no_part}
use borrow.Author.Rules.{rules}
use Rattle.verdict_lines.proofs.put_no.Goals as goal

pub returns : goal.returns
unfolding no_part ascii
returns c = filled_both (search rules) c.put_all-denied.ensures (filled_both (search rules) c.put_fields-placed.ensures (filled_both (search rules) c.put_all-split.ensures (filled_both (search rules) c.put_fields-listed.ensures c.put_all.ensures)))
