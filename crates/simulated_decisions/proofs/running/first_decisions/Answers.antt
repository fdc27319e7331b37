-- The run; no scenario has a frame that does not hold its core.
use mathlib.Core.Path.{sym, ap, ◌∙◌}
use native.Mathlib.Omega.{arith}
use borrow.Author.Rules.{rules}
use Rattle.drive_sets.specs.Bools.Laws.{clash}
use Rattle.drive_sets.specs.Masks.{subset}
use Rattle.drive_sets.specs.Masks.Laws.{subset_full, full_subset}
use Rattle.simulated_decisions.proofs.Bounds.{frame_bound, core_bound}
use Rattle.simulated_decisions.proofs.running.first_decisions.Goals as goal
use Rattle.simulated_decisions.proofs.running.first_decisions.Goals.{then-n-gt-MAX_DRIVES-via-then-n-gt-MAX_DRIVES, then-n-gt-MAX_DRIVES-via-else-n-gt-MAX_DRIVES+then-not-subset}

pub returns-then-n-gt-MAX_DRIVES-clause-value : goal.returns-then-n-gt-MAX_DRIVES-clause-value
returns-then-n-gt-MAX_DRIVES-clause-value c s t = let a = c.args in elim c.then-n-gt-MAX_DRIVES.branch [
  | then-n-gt-MAX_DRIVES-via-then-n-gt-MAX_DRIVES w ↦ absurd (omega (arith, frame_bound t, w.if-n-gt-MAX_DRIVES.true))
  | then-n-gt-MAX_DRIVES-via-else-n-gt-MAX_DRIVES+then-not-subset w ↦ absurd (clash (subset_full a.n a.core (frame_bound t) (core_bound t)) (sym (w.subset.ensures ∙ ap (subset a.core) w.full.ensures) ∙ w.if-not-subset.true))
]

pub run-requires : goal.run-requires
run-requires c = let a = c.args in (search rules, full_subset a.n a.core (sym (c.subset.ensures ∙ ap (subset a.core) c.full.ensures) ∙ c.if-not-subset.false))

pub returns-clause-none : goal.returns-clause-none
returns-clause-none c out = let a = c.args in absurd (out (search rules) (full_subset a.n a.core (sym (c.subset.ensures ∙ ap (subset a.core) c.full.ensures) ∙ c.if-not-subset.false)))
