-- What the private sets of each drive share: the sets from the last to the first, of which one with one drive of m
-- counts for that drive.
use borrow.Author.Tests.{eqb-true, eqb-false}
use Rattle.hitting_sets.proofs.Backwards.{last_item, none_left}
use Rattle.hitting_sets.proofs.Shares.{sharing_start, shared_bounds, sharing_one, sharing_none, sharing_end}
use Rattle.drive_sets.specs.Masks.{common}
use mathlib.Core.Path.{refl, sym, ◌∙◌}
use Rattle.hitting_sets.proofs.search.in_all_private.Goals as goal

pub loop-s-init : goal.loop-s-init
loop-s-init c = sharing_start _ _

pub place-k-requires : goal.place-k-requires
unfolding common
place-k-requires c =
    let l = c.loop-s in
    let s = last_item c.args.sets.now _ (cc) l.yielded _ l.yielded_by _ _ c.next.ensures.steps _ c.in-Some.is in
    shared_bounds l.invariant s c.ranges.m.fits (eqb-true _ 1 (sym c.is_single.ensures ∙ c.if-is_single.true)) _ c.lowest.ensures

pub loop-s-preserved-then-is_single : goal.loop-s-preserved-then-is_single
unfolding common
loop-s-preserved-then-is_single c =
    let l = c.loop-s in
    let s = last_item c.args.sets.now _ (cc) l.yielded _ l.yielded_by _ _ c.next.ensures.steps _ c.in-Some.is in
    sharing_one l.invariant s c.ranges.m.fits (eqb-true _ 1 (sym c.is_single.ensures ∙ c.if-is_single.true)) _ c.lowest.ensures _ _ c.place-k.ensures.0 refl

pub loop-s-preserved : goal.loop-s-preserved
unfolding common
loop-s-preserved c =
    let l = c.loop-s in
    let s = last_item c.args.sets.now _ (cc) l.yielded _ l.yielded_by _ _ c.next.ensures.steps _ c.in-Some.is in
    sharing_none l.invariant s (eqb-false _ 1 (sym c.is_single.ensures ∙ c.if-is_single.false))

pub returns : goal.returns
returns c =
    let l = c.loop-s in
    sharing_end l.invariant (none_left c.args.sets.now _ (cc) l.yielded _ l.yielded_by _ _ c.next.ensures.steps c.in-None.is)
