-- The two tests.
use Rattle.runs.specs.World.{active}
use Rattle.simulated_rounds.proofs.Setting.is_closer.Goals as goal

pub returns-then-not-was : goal.returns-then-not-was
unfolding active
returns-then-not-was c = rw (c.if-not-was.true, c.gone_by.ensures)

pub returns-else-not-was : goal.returns-else-not-was
unfolding active
returns-else-not-was c = rw (c.if-not-was.false)
