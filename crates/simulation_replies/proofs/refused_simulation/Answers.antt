-- The refusal's number beside zeros.
use mathlib.Core.Path.{ap₂, ◌∙◌}
use Prim.Native.Nat.{ℕ}
use lib.ListN.{replicate}
use Rattle.drive_sets.specs.Limits.{max_drives}
use Rattle.simulation_replies.specs.declared.DriveEnding.{DriveEnding}
use Rattle.simulation_replies.proofs.refused_simulation.Goals as goal

pub returns : goal.returns
returns c = ap₂ (λ (e : DriveEnding) (r : ℕ). record { drives = replicate max_drives e; core = 0; stops = 0; refusal = r }) c.no_ending.ensures (c.from.ensures ∙ c.number.ensures)
