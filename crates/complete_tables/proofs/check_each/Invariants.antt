-- What the masks that are left meet is what all of them meet.
use Rattle.std.specs.Prelude.{◌≡◌, drop}
use Rattle.drive_sets.specs.Refusals.{yields}
use Rattle.survivor_tables.specs.Tables.{each_mask}
use Rattle.complete_tables.proofs.check_each.Given as goal

abbrev pub invariant-loop-mask : goal.invariant-loop-mask
invariant-loop-mask l =
    each_mask l.kind l.n (drop l.mask-index l.masks) (yields l.masks) ≡ each_mask l.kind l.n l.masks (yields l.masks)
