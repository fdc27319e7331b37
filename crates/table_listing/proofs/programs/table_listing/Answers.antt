-- The text, which fits.
use Rattle.std.proofs.Common.{arith}
use Rattle.table_listing.proofs.Lengths.{program_length}
use Rattle.table_listing.proofs.programs.table_listing.Goals as goal

pub returns : goal.returns
returns c = c.print_made.ensures _ _ (omega (arith, program_length c.args.input.now)) c.put_table-size.ensures
