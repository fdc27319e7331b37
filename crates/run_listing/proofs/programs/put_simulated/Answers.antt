-- The lines of the drives, then the core's.
use Rattle.drive_sets.specs.Filled.Laws.{filled_same}
use Rattle.text.proofs.Puts.{filled_both}
use Rattle.run_listing.proofs.RunPrograms.{simulated_text}
use borrow.Author.Rules.{rules}
use Rattle.run_listing.proofs.programs.put_simulated.Goals as goal

pub returns : goal.returns
returns c = filled_same (simulated_text c.args.n c.args.s.now) (filled_both (search rules) c.put_drives-listed.ensures c.put_core_line.ensures)
