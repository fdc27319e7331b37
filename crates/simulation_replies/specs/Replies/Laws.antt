-- A reply's refusal is the outcome's.
use Rattle.std.specs.Prelude.{◌≡◌, refl}
use Rattle.drive_sets.specs.Refusals.{Outcome, refused, yields}
use Rattle.simulation.specs.Simulation.{Simulated}
use Rattle.c_replies.specs.Replies.{refusal_of}
use Rattle.simulation_replies.specs.Replies.{simulation_reply}

pub simulation_refusal : (o : Outcome Simulated) → (simulation_reply o).refusal ≡ refusal_of o
simulation_refusal (refused r) = refl
simulation_refusal (yields s) = refl
