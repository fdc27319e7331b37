-- The rests for the masks so far.
use Rattle.std.specs.Prelude.{◌≡◌, map}
use Rattle.drive_sets.specs.Masks.{outside}
use Rattle.fault_lists.proofs.rests.Given as goal

abbrev pub invariant-loop-mask : goal.invariant-loop-mask
invariant-loop-mask l = l.out.items ≡ map (λ m. outside l.n m.now) l.yielded
