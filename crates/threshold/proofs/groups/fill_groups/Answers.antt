-- All groups, from the first place on.
use Rattle.threshold.proofs.Fills.{filled_groups}
use Rattle.threshold.proofs.groups.fill_groups.Goals as goal

pub returns : goal.returns
returns c = filled_groups _ _ _ _ _ c.requires.2 c.put_groups.ensures
