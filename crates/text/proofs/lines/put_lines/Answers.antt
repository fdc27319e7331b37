-- Each call puts one line.
use borrow.Author.Rules.{rules}
use Rattle.text.specs.Text.{line, lines}
use Rattle.text.proofs.lines.put_lines.Goals as goal

pub returns : goal.returns
unfolding lines
returns c = c.put_each.ensures (line c.args.word.now c.args.base) (λ b next at x r p. search rules)
