-- A set that shares nothing with c decides; else all that are marked.
use mathlib.Core.Path.{sym, ◌∙◌}
use Rattle.hitting_sets.proofs.FarMarks.{far_decides}
use Rattle.hitting_sets.proofs.marks.shared_quickly.Goals as goal

pub returns-then-meets : goal.returns-then-meets
returns-then-meets c = let a = c.args in far_decides a.sets.now a.column.now a.once.now a.far a.c c.ranges.far.fits c.requires.4 (sym c.meets.ensures ∙ c.if-meets.true)
