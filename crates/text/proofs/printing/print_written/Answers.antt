-- What the call wrote, or the line of its refusal.
use Rattle.text.proofs.Prints.{answer_printed}
use Rattle.text.proofs.printing.print_written.Goals as goal

pub returns : goal.returns
returns c before file fits long w = c.print_made.ensures before _ fits (answer_printed file fits long w c.put_written-size.ensures)
