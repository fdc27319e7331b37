-- The first mark: word after word from the one of the first set that is not seen.
use mathlib.Core.Path.{ap}
use Prim.Native.Nat.{◌+◌, ℕ, ◌*◌}
use native.Mathlib.Omega.{arith}
use Rattle.drive_sets.specs.Loops.Drives.{lowest_bounds}
use Rattle.hitting_sets.proofs.FirstMarks.{met_seen, first_missed_law, none_missed, met_word, met_to, missed_there}
use Rattle.hitting_sets.proofs.marks.next_marked.Goals as goal

pub loop-i-init : goal.loop-i-init
loop-i-init c = let p = c.requires in met_seen _ _ _ _ p.0 p.1 (omega arith)

pub place-requires : goal.place-requires
place-requires c = lowest_bounds (c.type_inv.missed _).fits c.if-word-ne0.true c.lowest.ensures

pub returns-then-at-sets : goal.returns-then-at-sets
returns-then-at-sets c =
    let p = c.requires in
    let l = c.loop-i in
    let w = (c.type_inv.missed l.i).fits in
    let e = ap (λ (k : ℕ). 64 * l.i + k) c.place.ensures.0 in
    first_missed_law _ _ _ _ p.0 p.1 c.if-at-sets.true
    (met_to _ _ p.3 l.i c.loop-i-test.true l.invariant w c.if-word-ne0.true _ _ c.lowest.ensures e)
    (missed_there _ _ p.3 l.i c.loop-i-test.true l.invariant w c.if-word-ne0.true _ _ c.lowest.ensures e)

pub returns-then-word-ne0 : goal.returns-then-word-ne0
returns-then-word-ne0 c =
    let p = c.requires in
    let l = c.loop-i in
    let w = (c.type_inv.missed l.i).fits in
    let e = ap (λ (k : ℕ). 64 * l.i + k) c.place.ensures.0 in
    none_missed _ _ _ _ c.if-at-sets.false (met_to _ _ p.3 l.i c.loop-i-test.true l.invariant w c.if-word-ne0.true _ _ c.lowest.ensures e)

pub loop-i-preserved : goal.loop-i-preserved
loop-i-preserved c = met_word _ _ c.requires.3 c.loop-i.i c.loop-i-test.true c.loop-i.invariant c.if-word-ne0.false

pub returns : goal.returns
returns c = none_missed _ _ _ _ (omega arith) c.loop-i.invariant
