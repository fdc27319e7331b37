-- Each input has at least its three first bytes, so the bytes that are left grow fewer.
use Rattle.std.proofs.Common.{length}
use Rattle.vectors.proofs.print_all.Given as goal

abbrev pub decreases-loop-rest : goal.decreases-loop-rest
decreases-loop-rest g l = length l.rest
