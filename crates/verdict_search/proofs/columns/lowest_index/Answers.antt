-- The bounds of the lowest drive.
use Rattle.drive_sets.specs.Loops.Drives.{lowest_bounds}
use native.Mathlib.Omega.{arith}
use Rattle.verdict_search.proofs.columns.lowest_index.Goals as goal

pub overflow_sub-result : goal.overflow_sub-result
overflow_sub-result c = omega (arith, lowest_bounds c.ranges.m.fits c.requires c.lowest-d.ensures)

pub returns : goal.returns
returns c = let b = lowest_bounds c.ranges.m.fits c.requires c.lowest-d.ensures in (omega (arith, b.0, c.lowest-d.ensures), omega (arith, b.0, b.1))
