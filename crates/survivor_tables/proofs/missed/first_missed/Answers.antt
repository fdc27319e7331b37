-- The first from the front on.
use Rattle.survivor_tables.proofs.missed.first_missed.Goals as goal

pub returns : goal.returns
returns c = c.next_missed.ensures
