-- The drives that stay critical: the sets from the last to the first, of which those that add no drive or are covered
-- do not count.
use borrow.Author.Tests.{eqb-true, eqb-false}
use mathlib.Core.List.{List}
use Prim.Native.Nat.{ℕ}
use Rattle.hitting_sets.proofs.Backwards.{last_item, none_left, passed_start, passed_turn, passed_end}
use Rattle.hitting_sets.proofs.OneMore.{critical_more, critical_skip, critical_had, kept_more, kept_skip, kept_same}
use Rattle.survivor_tables.specs.Hitting.{critical}
use Rattle.drive_sets.specs.Masks.{common, union}
use Rattle.drive_sets.specs.Lists.{filter}
use mathlib.Core.Bool.{not}
use mathlib.Core.Path.{refl, sym, ap, ◌∙◌}
use Rattle.hitting_sets.proofs.search.critical_uncovered.Goals as goal
use Rattle.hitting_sets.proofs.search.critical_uncovered.Goals.{else-not-subset-via-then-not-subset+then-is_single+else-not-covered, else-not-subset-via-then-not-subset+else-is_single, else-not-subset-via-else-not-subset}

pub loop-s-init : goal.loop-s-init
unfolding critical filter
loop-s-init c = passed_start _ _ _ refl

pub loop-s-preserved-then-not-covered : goal.loop-s-preserved-then-not-covered
unfolding common union
loop-s-preserved-then-not-covered c =
    let l = c.loop-s in
    let s = last_item c.args.sets.now _ (cc) l.yielded _ l.yielded_by _ _ c.next.ensures.steps _ c.in-Some.is in
    passed_turn l.invariant s _
    (kept_more (λ l. critical l c.args.m) _ _ _ (ap not (sym c.covered.ensures ∙ c.if-not-covered.true)) _
    (critical_more _ _ _ (eqb-true _ 1 (sym c.is_single.ensures ∙ c.if-is_single.true))))

pub loop-s-preserved : goal.loop-s-preserved
unfolding common
loop-s-preserved c =
    let f : List ℕ → ℕ = λ l. critical l c.args.m in
    let l = c.loop-s in
    let s = last_item c.args.sets.now _ (cc) l.yielded _ l.yielded_by _ _ c.next.ensures.steps _ c.in-Some.is in
    passed_turn l.invariant s _
    (elim c.else-not-subset.branch [
      | else-not-subset-via-then-not-subset+then-is_single+else-not-covered w ↦ kept_skip f _ _ _ (ap not (sym w.covered.ensures ∙ w.if-not-covered.false))
      | else-not-subset-via-then-not-subset+else-is_single w ↦ kept_same f _ _ _ (critical_skip _ _ _ (eqb-false _ 1 (sym w.is_single.ensures ∙ w.if-is_single.false)))
      | else-not-subset-via-else-not-subset w ↦ kept_same f _ _ _ (critical_had _ _ _ (sym c.subset.ensures ∙ w.if-not-subset.false))
    ])

pub returns : goal.returns
returns c =
    let l = c.loop-s in
    passed_end l.yielded l.invariant (none_left c.args.sets.now _ (cc) l.yielded _ l.yielded_by _ _ c.next.ensures.steps c.in-None.is)
