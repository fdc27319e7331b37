-- No sends are left.
use mathlib.Core.Path.{refl}
use Rattle.simulated_sends.specs.States.{due_of}
use Rattle.simulated_sends.proofs.lists.nothing.Goals as goal

pub returns : goal.returns
unfolding due_of
returns c = (refl, refl)
