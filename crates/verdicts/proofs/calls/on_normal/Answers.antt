-- 33, or the verdict that is found.
use borrow.Author.Tests.{le-leb, lt-leb}
use Rattle.verdicts.specs.Calls.{judged}
use Rattle.verdicts.proofs.calls.on_normal.Goals as goal

pub returns-then-n-k : goal.returns-then-n-k
unfolding judged
returns-then-n-k c = let few = le-leb _ _ c.if-n-k.true in record { says = rw few; whole = rw few }

pub returns : goal.returns
unfolding judged
returns c =
    let more = lt-leb _ _ c.if-n-k.false in
    let pre = c.requires in
    let found = c.find_verdict.ensures.found pre.0 pre.1 pre.2 in
    record { says = rw (found.0, more); whole = rw (found.1, more) }
