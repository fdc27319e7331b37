-- The file or the line, which fits.
use Rattle.std.proofs.Common.{arith}
use Rattle.convert_files.specs.ConvertFiles.{convert_file, convert_program}
use Rattle.convert_files.proofs.Prints.{program_length}
use Rattle.convert_files.proofs.convert_file.Goals as goal

pub returns : goal.returns
unfolding convert_program
returns c =
    c.print_written.ensures _ (convert_file c.args.input.now) (omega (arith, program_length c.args.input.now)) c.write_converted-w.auto.buf c.write_converted-w.ensures
