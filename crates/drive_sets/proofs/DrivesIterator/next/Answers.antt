-- No drive is left, or the lowest comes and the others are left.
use Rattle.std.proofs.Common.{ap, ◌∙◌, length, arith}
use Rattle.drive_sets.specs.Masks.{drives}
use Rattle.drive_sets.specs.Masks.Sizes.{drives_none}
use Rattle.drive_sets.specs.Loops.Drives.{taken, taken_drives}
use Rattle.drive_sets.proofs.DrivesIterator.next.Goals as goal

pub returns-then-self-eq0-clause-steps : goal.returns-then-self-eq0-clause-steps
returns-then-self-eq0-clause-steps c = let e = ap drives c.if-self-eq0.true ∙ drives_none in (e, e)

pub returns-clause-steps : goal.returns-clause-steps
returns-clause-steps c = taken_drives (taken (omega arith) c.if-self-eq0.false c.lowest-first.ensures c.without_lowest-self.ensures)

pub returns-clause-goes : goal.returns-clause-goes
returns-clause-goes c =
    let w = ap length (taken_drives (taken (omega arith) c.if-self-eq0.false c.lowest-first.ensures c.without_lowest-self.ensures)) in
    record { on = λ _. (tt, tt, omega (arith, w)); keeps = tt; rests = λ _. tt }
