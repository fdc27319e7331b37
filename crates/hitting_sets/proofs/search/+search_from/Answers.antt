-- The search: the sets still to come become fewer with each call; each return, and each turn of the loop over the
-- drives with which it goes on, is a law of Trials.
use mathlib.Core.Path.{refl, sym, ap, ◌∙◌}
use Prim.Native.Nat.{◌+◌}
use native.Mathlib.Omega.{arith}
use lib.ListN.{length}
use borrow.Author.Rules.{rules}
use Rattle.drive_sets.specs.Loops.Drives.{taken, lowest_bounds, taken_fewer}
use Rattle.hitting_sets.proofs.Trials.{try_start, try_minimal, try_tracked, try_next, try_end, try_stop, try_fuel, end_one, searched_from, searched_passed}
use Rattle.hitting_sets.proofs.Tracking.{columns_room}
use Rattle.hitting_sets.proofs.Places.{missed_next, none_next, passed_minimal}
use Rattle.hitting_sets.proofs.search.+search_from.Goals as goal
use Rattle.hitting_sets.proofs.search.+search_from.Goals.{in-None, in-Some}

pub candidates-rest-requires : goal.candidates-rest-requires
candidates-rest-requires t c =
    let p = c.requires in
    (p.0, p.3, p.1, p.4.few, p.4.by_drive, p.4.shares_one)

pub loop-rest-init : goal.loop-rest-init
loop-rest-init t c =
    let start = c in
    let e = c.candidates-rest in
    (try_start start.args.out.now start.requires.0 e.ensures.0 e.ensures.1 e.type_inv (omega (arith, c.spend-sum.ensures.0, start.requires.2)), refl, refl, refl)

pub column-held-requires : goal.column-held-requires
column-held-requires t c =
    let b = lowest_bounds c.loop-rest.invariant.0.word c.loop-rest-test.true c.lowest-d.ensures in
    (b.0, b.1, columns_room _ _ c.requires.4.by_drive)

pub take_drive-requires : goal.take_drive-requires
take_drive-requires t c =
    let k = c.requires.4 in
    let l = c.loop-rest.invariant in
    let b = lowest_bounds l.0.word c.loop-rest-test.true c.lowest-d.ensures in
    let room = (k.by_drive _ b.0 b.1).room in
    let same = ap length c.column-held.ensures in
    (omega (arith, room, same, k.few), k.misses.room, k.shares_one.room, omega (arith, k.few, l.2), omega (arith, k.few, l.3))

pub next_marked-first-requires : goal.next_marked-first-requires
next_marked-first-requires t c =
    let start = c in
    let y = c.loop-rest.invariant.0 in
    let w = taken y.word c.loop-rest-test.true c.lowest-d.ensures refl in
    let k = start.requires.4 in
    let more = try_tracked y w _ c.insert-t.ensures start.ranges.m.fits k _ c.column-held.ensures c.take_drive.new.left c.take_drive.new.alone (omega (arith, k.few, c.take_drive.auto.left, c.loop-rest.invariant.2)) (omega (arith, k.few, c.take_drive.auto.alone, c.loop-rest.invariant.3)) c.take_drive.ensures.0 c.take_drive.ensures.1 in
    (search rules, (try_minimal y w _ c.insert-t.ensures).all_met, k.few, more.misses)

pub put-sum-requires : goal.put-sum-requires
put-sum-requires t c = (try_fuel c.loop-rest.invariant.0 c.goes_on.ensures c.if-goes_on.true).0

pub overflow_sub-i : goal.overflow_sub-i
overflow_sub-i t c = (missed_next _ _ _ _ (sym c.next_marked-first.ensures ∙ c.in-Some.is)).0

pub search_from-sum-requires : goal.search_from-sum-requires
search_from-sum-requires t c =
    let start = c in
    let a = start.args in
    let y = c.loop-rest.invariant.0 in
    let w = taken y.word c.loop-rest-test.true c.lowest-d.ensures refl in
    let k = start.requires.4 in
    let f = missed_next a.sets.now _ _ _ (sym c.next_marked-first.ensures ∙ c.in-Some.is) in
    let more = try_tracked y w _ c.insert-t.ensures start.ranges.m.fits k _ c.column-held.ensures c.take_drive.new.left c.take_drive.new.alone (omega (arith, k.few, c.take_drive.auto.left, c.loop-rest.invariant.2)) (omega (arith, k.few, c.take_drive.auto.alone, c.loop-rest.invariant.3)) c.take_drive.ensures.0 c.take_drive.ensures.1 in
    (omega (arith, f.1, f.2.from), (f.1, f.3, (try_fuel y c.goes_on.ensures c.if-goes_on.true).0, passed_minimal a.sets.now _ _ _ f.2 (try_minimal y w _ c.insert-t.ensures), more))

pub loop-rest-smaller : goal.loop-rest-smaller
loop-rest-smaller t c = taken_fewer (taken c.loop-rest.invariant.0.word c.loop-rest-test.true c.lowest-d.ensures c.without_lowest-rest.ensures)

pub loop-rest-preserved : goal.loop-rest-preserved
loop-rest-preserved t c =
    let l = c.loop-rest.invariant in
    let y = l.0 in
    let sets = c.args.sets.now in
    let after = c.args.next + 1 in
    let tk = taken y.word c.loop-rest-test.true c.lowest-d.ensures c.without_lowest-rest.ensures in
    let q = c.insert-t.ensures in
    let m' = c.insert-t.result in
    let fuel = try_fuel y c.goes_on.ensures c.if-goes_on.true in
    let left-same = c.take_drive.auto.left ∙ l.2 in
    let alone-same = c.take_drive.auto.alone ∙ l.3 in
    elim c.match-first.branch [
      | in-None w ↦ let f = none_next sets after m' y.inside (sym c.next_marked-first.ensures ∙ w.in-None.is) in
          let p = w.put-sum.ensures in
          (try_next y tk _ q fuel.1 w.put-sum.result (end_one sets m' after f c.loop-rest.out c.loop-rest.sum.found fuel.0 p.0 p.1 p.2) w.put-sum.auto.out w.out-is w.sum-is, c.match-first.auto.ends ∙ l.1, left-same, alone-same)
      | in-Some w ↦ let f = missed_next sets after m' _ (sym c.next_marked-first.ensures ∙ w.in-Some.is) in
          let r = w.search_from-sum in
          (try_next y tk _ q fuel.1 r.result (searched_passed sets m' after _ f.2 r.ensures) r.auto.out w.out-is w.sum-is, c.match-first.auto.ends ∙ l.1, left-same, alone-same)
    ]

pub returns-else-goes_on : goal.returns-else-goes_on
returns-else-goes_on t c = searched_from c.spend-sum.ensures.0 c.spend-sum.ensures.1 (try_stop c.loop-rest.invariant.0 c.goes_on.ensures c.if-goes_on.false)

pub returns-after-loop-rest : goal.returns-after-loop-rest
returns-after-loop-rest t c = searched_from c.spend-sum.ensures.0 c.spend-sum.ensures.1 (try_end c.loop-rest.invariant.0 c.loop-rest-test.false)
