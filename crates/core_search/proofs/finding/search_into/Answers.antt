-- Too many, or what was found, copied.
use native.Mathlib.Omega.{arith}
use Rattle.core_search.proofs.Finds.{found_more, found_all}
use Rattle.core_search.proofs.finding.search_into.Goals as goal

pub returns-then-r-list : goal.returns-then-r-list
returns-then-r-list c = found_all c.args.out.now c.search_until_done-r.ensures c.requires _ (omega arith) c.copy.ensures

pub returns-else-r-list : goal.returns-else-r-list
returns-else-r-list c = found_more c.args.out.now c.search_until_done-r.ensures c.requires (omega arith)
