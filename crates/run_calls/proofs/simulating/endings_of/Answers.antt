-- The drives one after the other, over zeros.
use native.Mathlib.Omega.{arith}
use Rattle.simulated_decisions.specs.Endings.{ending_at}
use Rattle.run_calls.proofs.Simulates.{putting_start, drive_turn, putting_end}
use Rattle.run_calls.proofs.simulating.endings_of.Goals as goal

pub loop-i-init : goal.loop-i-init
loop-i-init c = rw c.no_ending-drives.ensures (putting_start _ _)

pub loop-i-preserved : goal.loop-i-preserved
loop-i-preserved c =
    let s = c.args.s.now in
    let l = c.loop-i in
    drive_turn c.args.n s.crashed s.found l.drives l.i l.invariant (omega arith) c.requires _ c.has.ensures _ c.ending_of.ensures

pub returns : goal.returns
returns c = let l = c.loop-i in putting_end c.args.n (ending_at c.args.s.now.crashed c.args.s.now.found) l.drives l.i l.invariant (omega arith)
