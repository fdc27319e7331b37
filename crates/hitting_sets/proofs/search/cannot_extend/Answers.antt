-- The look-ahead: the forbidden drives, then the drives that stay critical before the sets ahead.
use Rattle.hitting_sets.proofs.Covers.{cannot_extend_ahead}
use Rattle.hitting_sets.proofs.search.cannot_extend.Goals as goal

pub returns : goal.returns
returns c = let a = c.args in cannot_extend_ahead a.sets.now a.seen a.m c.ranges.m.fits c.requires.1 _ _ c.forbidden-bar.ensures c.critical_uncovered.ensures
