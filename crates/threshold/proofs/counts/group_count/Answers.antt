-- `group_count`: the constant table is the one that the rule gives, compared here once for all entries.
use mathlib.Core.Path.{refl}
use Rattle.threshold.specs.Counts.{count_at, group_counts, rows, next_row, sums_held, held}
use Rattle.threshold.proofs.counts.group_count.Goals as goal

pub returns : goal.returns
unfolding count_at group_counts rows next_row sums_held held
returns c = refl
