-- What is not forbidden: by the sets, or by the marks, the drives of m from the lowest on.
use mathlib.Core.Path.{ap, ◌∙◌}
use Prim.Native.Nat.{◌-◌}
use native.Mathlib.Omega.{arith}
use lib.ListN.{length, get_or, take, length-take}
use Rattle.drive_sets.specs.Loops.Drives.{taken, lowest_bounds, taken_has, taken_bounds, taken_fewer}
use Rattle.drive_sets.specs.Masks.{minus}
use Rattle.hitting_sets.proofs.Allowing.{allowing_start, allowing_turn, allowing_end, all_none, apart_is, apart_same, shared_is, seen_from}
use Rattle.hitting_sets.proofs.Tracking.{columns_room}
use Rattle.hitting_sets.proofs.search.allowed.Goals as goal
use Rattle.hitting_sets.proofs.search.allowed.Goals.{then-all-ne0, else-all-ne0}

pub returns-then-words-sets : goal.returns-then-words-sets
returns-then-words-sets c = let a = c.args in c.minus.ensures ∙ (ap (minus (get_or a.sets.now a.next 0)) c.forbidden.ensures ∙ seen_from a.sets.now a.next _ _)

pub apart-far-requires : goal.apart-far-requires
apart-far-requires c = columns_room _ _ c.requires.2

pub loop-rest-init : goal.loop-rest-init
loop-rest-init c =
    let a = c.args in
    let p = c.requires in
    let s_lt = (c.type_inv.sets a.next).fits in (
      allowing_start _ _ _ s_lt c.ranges.m.fits,
      apart_is a.sets.now a.next a.m a.words a.columns.now a.once.now c.ranges.m.fits p.0 p.1 c.if-words-sets.false p.2 p.3 (λ i. (c.type_inv.once i).fits)
          _ _ s_lt c.apart-far.ensures,
    )

pub column-requires : goal.column-requires
column-requires c =
    let b = lowest_bounds c.loop-rest.invariant.0.walk.word c.loop-rest-test.true c.lowest-d.ensures in
    (b.0, b.1, columns_room _ _ c.requires.2)

pub shared_quickly-all-requires : goal.shared_quickly-all-requires
shared_quickly-all-requires c =
    let a = c.args in
    let p = c.requires in
    let y = c.loop-rest.invariant in
    let b = lowest_bounds y.0.walk.word c.loop-rest-test.true c.lowest-d.ensures in
    let room = (p.2 _ b.0 b.1).room in
    let same = ap length c.column.ensures in
    let cut = length-take (a.next - 0) a.sets.now in
    (omega (arith, room, same), omega (arith, cut, p.0, p.1, c.if-words-sets.false), omega (arith, cut, room, same, p.0, p.1, c.if-words-sets.false), omega (arith, cut, p.3.room, p.0, c.if-words-sets.false), y.1)

pub apart-far-requires-then-all-ne0 : goal.apart-far-requires-then-all-ne0
apart-far-requires-then-all-ne0 c = columns_room _ _ c.requires.2

pub loop-rest-smaller : goal.loop-rest-smaller
loop-rest-smaller c = taken_fewer (taken c.loop-rest.invariant.0.walk.word c.loop-rest-test.true c.lowest-d.ensures c.without_lowest-rest.ensures)

pub loop-rest-preserved : goal.loop-rest-preserved
loop-rest-preserved c =
    let a = c.args in
    let p = c.requires in
    let y = c.loop-rest.invariant in
    let t = taken y.0.walk.word c.loop-rest-test.true c.lowest-d.ensures c.without_lowest-rest.ensures in
    let each = shared_is a.sets.now a.next a.m a.words a.columns.now a.once.now c.ranges.m.fits p.0 p.1 c.if-words-sets.false p.2 p.3 (λ i. (c.type_inv.once i).fits)
    _ (taken_bounds t).0 (taken_bounds t).1 (y.0.of_m _ (taken_has t)) _ c.column.ensures _ _ c.shared_quickly-all.ensures in
    let seen = take (a.next - 0) a.sets.now in
    elim c.if-all-ne0.branch [
      | then-all-ne0 w ↦ (
        allowing_turn y.0 p.4 t _ _ each (w.c-is ∙ w.minus-c.ensures),
        apart_same seen a.once.now w.far-is w.c-is
            (apart_is a.sets.now a.next a.m a.words a.columns.now a.once.now c.ranges.m.fits p.0 p.1 c.if-words-sets.false p.2 p.3 (λ i. (c.type_inv.once i).fits)
            _ _ w.minus-c.type_inv w.apart-far-then-all-ne0.ensures),
      )
      | else-all-ne0 w ↦ (allowing_turn y.0 p.4 t _ _ each (all_none y.0 _ _ w.if-all-ne0.false w.c-is), apart_same seen a.once.now w.far-is w.c-is y.1)
    ]

pub returns : goal.returns
returns c = let a = c.args in allowing_end c.loop-rest.invariant.0 c.loop-rest-test.false ∙ seen_from a.sets.now a.next _ _
