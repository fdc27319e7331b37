-- The file or the line, which fits.
use Rattle.std.proofs.Common.{arith}
use Rattle.threshold_files.specs.ThresholdFiles.{asked, threshold_program}
use Rattle.threshold_files.proofs.Prints.{program_length}
use Rattle.threshold_files.proofs.threshold_file.Goals as goal

pub returns : goal.returns
unfolding threshold_program
returns c =
    c.print_written.ensures _ (asked c.args.input.now) (omega (arith, program_length c.args.input.now)) c.write_asked-w.auto.buf c.write_asked-w.ensures
