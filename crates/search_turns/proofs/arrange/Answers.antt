-- Whatever the turn, each set stands there as often as before.
use mathlib.Core.Path.{ap, ◌∙◌}
use Rattle.drive_sets.specs.Lists.{times}
use Rattle.set_orders.specs.Sorting.Laws.{times_sort_first}
use Rattle.search_turns.proofs.arrange.Goals as goal

pub returns-in-3 : goal.returns-in-3
returns-in-3 c x = ap (times x) c.sort.ensures ∙ times_sort_first _ x _ _

pub returns-in-6 : goal.returns-in-6
returns-in-6 c x = ap (times x) c.sort-in-6.ensures ∙ times_sort_first _ x _ _
