-- The text, which fits.
use Rattle.std.proofs.Common.{arith}
use Rattle.run_listing.proofs.Lengths.{run_program_length}
use Rattle.run_listing.proofs.programs.run_listing.Goals as goal

pub returns : goal.returns
returns c = c.print_made.ensures _ _ (omega (arith, run_program_length c.args.input.now)) c.put_run-size.ensures
