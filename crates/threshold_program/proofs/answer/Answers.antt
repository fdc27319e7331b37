-- The program's text has room, and no byte of the input behind what is read changes it.
use Rattle.threshold_files.proofs.Prints.{program_length}
use Rattle.threshold_files.specs.ThresholdFiles.{threshold_program}
use Rattle.threshold_program.proofs.Prefixes.{threshold_program_prefix}
use Rattle.threshold_program.proofs.answer.Goals as goal

pub returns : goal.returns
returns g c = c.answer.ensures (λ input. (program_length input, threshold_program_prefix input))
