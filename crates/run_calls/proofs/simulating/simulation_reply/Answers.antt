-- The refusal, or how the drives end.
use Rattle.simulation.specs.Endings.{simulated_outcome}
use Rattle.run_calls.proofs.Simulates.{reply_told}
use Rattle.run_calls.proofs.simulating.simulation_reply.Goals as goal

pub returns-in-Err : goal.returns-in-Err
unfolding simulated_outcome
returns-in-Err c = rw (c.in-Err.is) c.refused_simulation.ensures

pub returns-in-Ok : goal.returns-in-Ok
unfolding simulated_outcome
returns-in-Ok c = rw (c.in-Ok.is, c.endings_of-drives.ensures) (reply_told c.args.n c.in-Ok.s)
