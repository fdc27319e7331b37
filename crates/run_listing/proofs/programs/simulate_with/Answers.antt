-- The file's refusal, or its simulated exchange.
use Rattle.std.proofs.lemmas.Result.{err_from_is_err_and}
use Rattle.run_files.specs.Reading.{run_file_outcome}
use Rattle.simulation.specs.Endings.{simulated_outcome}
use Rattle.run_listing.specs.RunListing.{simulated_with}
use Rattle.run_listing.proofs.programs.simulate_with.Goals as goal

pub returns-in_err-file : goal.returns-in_err-file
unfolding run_file_outcome simulated_outcome simulated_with
returns-in_err-file c =
    let e = err_from_is_err_and c.from_residual.result c.from_residual.ensures.1 in
    rw (e.1, e.2, ← c.in_err-file.ensures)

pub returns : goal.returns
unfolding run_file_outcome simulated_with
returns c = rw (c.simulate.ensures, ← c.in_ok-file.ensures)
