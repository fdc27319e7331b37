-- The program's text has room, and no byte of the input behind what is read changes it.
use Rattle.convert_files.proofs.Prints.{program_length}
use Rattle.convert_files.specs.ConvertFiles.{convert_program}
use Rattle.convert_files.specs.ConvertFiles.Laws.{convert_program_prefix}
use Rattle.convert_program.proofs.answer.Goals as goal

pub returns : goal.returns
returns g c = c.answer.ensures (λ input. (program_length input, convert_program_prefix input))
