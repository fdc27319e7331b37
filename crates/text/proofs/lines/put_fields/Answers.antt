-- Each call puts one field.
use borrow.Author.Rules.{rules}
use Rattle.text.specs.Text.{field, fields}
use Rattle.text.proofs.lines.put_fields.Goals as goal

pub returns : goal.returns
unfolding fields
returns c = c.put_each.ensures (field c.args.base) (λ b next at x r p. search rules)
