-- What the simulated exchange of the file gave.
use Rattle.run_calls.proofs.Simulates.{frame_of_file, frame_told}
use Rattle.run_calls.proofs.simulating.regdulyn_simulate_file.Goals as goal

pub simulation_reply-requires : goal.simulation_reply-requires
simulation_reply-requires c = frame_told c.args.n c.args.sets.now _ c.simulate_with.ensures (λ x e. frame_of_file c.args.n c.args.sets.now c.args.run.now e)
