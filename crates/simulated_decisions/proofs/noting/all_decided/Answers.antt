-- Each was found to have decided.
use Rattle.std.proofs.Common.{rules, tests}
use Rattle.std.proofs.lemmas.Iterator.{cases_from_all, YieldsList-from_slice}
use native.Mathlib.Omega.{arith}
use lib.ListN.{take}
use Rattle.simulated_decisions.proofs.FirstDecisions.{Decided, all_have_decided}
use Rattle.simulated_decisions.proofs.noting.all_decided.Goals as goal

pub returns : goal.returns
returns c = let a = c.args in
    all_have_decided a.n a.found.now _ c.all.result
    (cases_from_all _ _ _ Decided (λ first. Unit {0}) c.all.ensures.ran (YieldsList-from_slice (take a.n a.found.now) cc) (λ x q k. search (rules, tests)) (λ x q k. tt))
    (omega (arith, c.requires, c.told-found))
