-- One group, or those without the last drive and then those with it: a call has one drive less.
use borrow.Author.Rules.{rules}
use native.Mathlib.Omega.{arith}
use Rattle.drive_sets.specs.Masks.{union}
use Rattle.threshold.proofs.Fills.{none_room, all_room, fill_none, fill_all, first_room, second_room, fill_both}
use Rattle.threshold.proofs.groups.+put_groups.Goals as goal

pub bounds-out-at : goal.bounds-out-at
bounds-out-at t c = none_room _ _ _ _ c.requires.2 c.if-k-eq0.true

pub returns-then-k-eq0 : goal.returns-then-k-eq0
returns-then-k-eq0 t c = fill_none _ _ _ _ _ c.requires.2 c.if-k-eq0.true

pub bounds-out-at-then-k-n : goal.bounds-out-at-then-k-n
bounds-out-at-then-k-n t c = all_room _ _ _ _ c.requires.2 c.if-k-n.true

pub returns-then-k-n : goal.returns-then-k-n
unfolding union
returns-then-k-n t c =
    let a = c.args in
    rw c.full.ensures (fill_all _ _ a.with _ _ c.requires.2 c.requires.1 c.if-k-n.true)

pub put_groups-next-requires : goal.put_groups-next-requires
put_groups-next-requires t c = (search rules, (omega (arith, c.requires.0, c.if-k-eq0.false, c.if-k-n.false), omega (arith, c.requires.1), first_room _ _ _ _ c.requires.2 c.if-k-eq0.false c.requires.0))

pub put_groups-requires : goal.put_groups-requires
put_groups-requires t c = (search rules, (omega (arith, c.requires.0), omega (arith, c.requires.1), second_room _ _ _ _ _ c.requires.2 c.if-k-eq0.false c.requires.0 _ _ (search rules) c.put_groups-next.ensures))

pub returns : goal.returns
returns t c = fill_both _ _ _ _ _ c.requires.2 c.if-k-eq0.false c.requires.0 _ _ (search rules) c.put_groups-next.ensures c.insert.ensures c.put_groups.ensures
