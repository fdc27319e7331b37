-- The lines of the drives, one after the other.
use native.Mathlib.Omega.{arith}
use Rattle.drive_sets.specs.Lists.Places.{length_range}
use Rattle.text.proofs.Puts.{putting_start, putting_turn, putting_end}
use Rattle.run_listing.specs.RunParts.{drive_lines}
use Rattle.run_listing.proofs.RunPrograms.{drive_at_law}
use borrow.Author.Rules.{rules}
use Rattle.run_listing.proofs.run_text.put_drives.Goals as goal

pub loop-i-init : goal.loop-i-init
loop-i-init c = putting_start _ (omega arith)

pub loop-i-preserved : goal.loop-i-preserved
loop-i-preserved c =
    putting_turn c.loop-i.invariant (omega (arith, length_range 1 c.args.n)) (drive_at_law 1 c.args.n c.loop-i.i (omega arith)) (search rules) c.put_drive-at.ensures

pub returns : goal.returns
unfolding drive_lines
returns c = putting_end c.loop-i.invariant (omega (arith, length_range 1 c.args.n))
