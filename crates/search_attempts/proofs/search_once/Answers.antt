-- Found more than there is room for, given up, or found and put in order.
use borrow.Author.Rules.{rules}
use native.Mathlib.Omega.{arith}
use Rattle.search_attempts.proofs.Tries.{tried_more, tried_all}
use Rattle.search_attempts.proofs.search_once.Goals as goal

pub returns-then-list-found-clause-attempted : goal.returns-then-list-found-clause-attempted
returns-then-list-found-clause-attempted c = tried_more _ _ _ _ _ _ (search rules) c.search_all-found.ensures c.if-list-found.true

pub returns-clause-attempted : goal.returns-clause-attempted
returns-clause-attempted c =
    tried_all _ _ _ _ _ _ (search rules) c.search_all-found.ensures _ c.if-list-found.false (λ z. omega arith) c.sort.ensures
