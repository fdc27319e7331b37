-- The program's text has room, and no byte of the input behind what is read changes it.
use Rattle.run_listing.proofs.Lengths.{run_program_length}
use Rattle.run_listing.specs.RunListing.{run_program}
use Rattle.run_listing.specs.RunListing.Prefixes.{run_program_prefix}
use Rattle.run_program.proofs.answer.Goals as goal

pub returns : goal.returns
returns g c = c.answer.ensures (λ input. (run_program_length input, run_program_prefix input))
