-- The program's text has room, and no byte of the input behind what is read changes it.
use Rattle.table_listing.proofs.Lengths.{program_length}
use Rattle.table_listing.specs.TableListing.{table_program}
use Rattle.table_listing.specs.TableListing.Prefixes.{table_program_prefix}
use Rattle.table_program.proofs.answer.Goals as goal

pub returns : goal.returns
returns g c = c.answer.ensures (λ input. (program_length input, table_program_prefix input))
