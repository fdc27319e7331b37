-- What the simulated exchange gave.
use Rattle.run_calls.proofs.Simulates.{frame_of, frame_told}
use Rattle.run_calls.proofs.simulating.regdulyn_simulate.Goals as goal

pub simulation_reply-requires : goal.simulation_reply-requires
simulation_reply-requires c = frame_told c.args.n c.args.sets.now _ c.simulate.ensures (λ x e. frame_of c.args.n c.args.sets.now _ _ e)
