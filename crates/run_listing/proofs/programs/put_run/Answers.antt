-- The line of a refusal, or the text of the simulated exchange.
use mathlib.Core.Path.{sym, ap}
use Rattle.drive_sets.specs.Filled.Laws.{filled_same}
use Rattle.run_listing.specs.RunListing.{run_text, run_program}
use Rattle.run_listing.proofs.programs.put_run.Goals as goal

pub returns-in-Err : goal.returns-in-Err
unfolding run_program
returns-in-Err c = filled_same (ap run_text (sym c.in-Err.ensures.value)) c.put_refused.ensures

pub returns-in-Ok : goal.returns-in-Ok
unfolding run_program
returns-in-Ok c = filled_same (ap run_text (sym c.in-Ok.ensures.value)) c.put_simulated.ensures
