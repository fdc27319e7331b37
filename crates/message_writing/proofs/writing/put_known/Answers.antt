-- The start, the mask behind it, the numbers behind that.
use mathlib.Core.Path.{refl}
use Rattle.records.specs.Fields.{from_bytes}
use Rattle.records.specs.Marks.{ascii, mark_text, mark}
use Rattle.message_writing.proofs.Writes.{known_written}
use Rattle.drive_states.specs.State.{number_in}
use Rattle.message_writing.proofs.writing.put_known.Goals as goal

pub returns : goal.returns
unfolding mark mark_text ascii from_bytes
returns c = let a = c.args in known_written a.sender.0 a.round.0 a.mask (number_in a.numbers) a.part.now _ _ _ _ _ _ refl c.size.ensures c.if-part-size.false c.put_start.ensures c.put_field.ensures refl c.put_numbers.ensures
