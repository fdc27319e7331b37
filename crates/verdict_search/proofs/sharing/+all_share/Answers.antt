-- Few enough drives are lacked, or each set has a drive; else for each set that lacks the chosen drive, one set fewer.
use native.Mathlib.Omega.{arith}
use mathlib.Core.Path.{sym, ◌∙◌}
use Rattle.drive_sets.specs.Bools.Laws.{clash}
use Rattle.drive_sets.specs.Masks.{common}
use Rattle.verdict_search.proofs.Branches.{columns_part, few_share, each_share, branching_turn, branching_end}
use Rattle.verdict_search.proofs.sharing.+all_share.Goals as goal
use Rattle.verdict_search.proofs.sharing.+all_share.Goals.{else-not-has-via-then-not-has+else-not-all_share, else-not-has-via-else-not-has}

pub returns-then-from : goal.returns-then-from
unfolding common
returns-then-from t c = λ e. few_share c.args.table.now c.ranges.shared.fits c.requires.2 (rw (c.from.ensures, c.from-2.ensures, c.from-3.ensures, c.size.ensures) at c.if-from.true)

pub returns-then-k-eq1 : goal.returns-then-k-eq1
unfolding common
returns-then-k-eq1 t c = λ e. each_share c.args.table.now c.requires.1 c.requires.2 c.if-k-eq1.true (c.each_meets.ensures e)

pub all_share-requires : goal.all_share-requires
unfolding common
all_share-requires t c = (omega arith, (omega arith, c.requires.1, columns_part _ c.ranges.shared.fits c.requires.2))

pub loop-set-preserved : goal.loop-set-preserved
unfolding common
loop-set-preserved t c = branching_turn _ _ _ _ c.loop-set.invariant (λ lacks. elim c.else-not-has.branch [ else-not-has-via-then-not-has+else-not-all_share w ↦ w.all_share.ensures w.if-not-all_share.false | else-not-has-via-else-not-has w ↦ absurd (clash (sym c.has.ensures ∙ w.if-not-has.false) lacks) ])

pub returns : goal.returns
unfolding common
returns t c = λ e. branching_end _ _ _ _ (omega arith) c.rarest.ensures.0 c.loop-set.invariant c.loop-set-test.false
