-- The lines of the drives, one after the other.
use Rattle.drive_sets.specs.Lists.{range}
use Rattle.text.proofs.Puts.{Putting}
use Rattle.run_listing.specs.RunListing.{drive_line}
use Rattle.simulated_decisions.specs.Endings.{ending_at}
use Rattle.run_listing.proofs.run_text.put_drives.Given as goal

abbrev pub invariant-loop-i : goal.invariant-loop-i
invariant-loop-i l = Putting (λ d. drive_line d (ending_at l.s.crashed l.s.found d)) l.initial.buf (range 1 l.n) l.buf 0 l.at l.i
