-- The messages, then the closes; the same states where a test fails.
use mathlib.Core.List.{map}
use mathlib.Core.Path.{sym, ap, ◌∙◌}
use native.Mathlib.Omega.{arith}
use borrow.Author.Rules.{rules}
use Rattle.drive_sets.specs.Bools.Laws.{clash}
use Rattle.drive_sets.specs.Masks.{subset}
use Rattle.drive_sets.specs.Masks.Laws.{subset_full, full_subset}
use Rattle.runs.specs.World.{World, closes}
use Rattle.agreement.specs.Document01.{apply_all}
use Rattle.simulated_rounds.proofs.RoundCalls.{round_made}
use Rattle.simulated_rounds.specs.Rounds.{closers}
use Rattle.simulated_rounds.proofs.rounds.one_round.Goals as goal
use Rattle.simulated_rounds.proofs.rounds.one_round.Goals.{else-n-le-MAX_DRIVES-via-then-n-le-MAX_DRIVES+else-subset, else-n-le-MAX_DRIVES-via-else-n-le-MAX_DRIVES}

pub invariant_of-s : goal.invariant_of-s
invariant_of-s c = let a = c.args in record {
  few = search rules;
  within = full_subset a.n a.core (sym (c.subset.ensures ∙ ap (subset a.core) c.full.ensures) ∙ c.if-subset.true);
}

pub returns-then-subset-clause-value : goal.returns-then-subset-clause-value
returns-then-subset-clause-value c few within s g = let a = c.args in
    c.close_all.ensures ∙ (ap (λ (w : World). apply_all w (map closes (closers a.n a.states.now a.crashes.now a.round.0))) c.send_all.ensures ∙ sym (round_made a.n a.core a.crashes.now s few within g a.states.now a.round.0))

pub returns-then-subset-clause-kept : goal.returns-then-subset-clause-kept
returns-then-subset-clause-kept c none = let a = c.args in absurd (none (search rules) (full_subset a.n a.core (sym (c.subset.ensures ∙ ap (subset a.core) c.full.ensures) ∙ c.if-subset.true)))

pub returns-else-n-le-MAX_DRIVES-clause-value : goal.returns-else-n-le-MAX_DRIVES-clause-value
returns-else-n-le-MAX_DRIVES-clause-value c few within = let a = c.args in elim c.else-n-le-MAX_DRIVES.branch [
  | else-n-le-MAX_DRIVES-via-then-n-le-MAX_DRIVES+else-subset w ↦ absurd (clash (subset_full a.n a.core few within) (sym (w.subset.ensures ∙ ap (subset a.core) w.full.ensures) ∙ w.if-subset.false))
  | else-n-le-MAX_DRIVES-via-else-n-le-MAX_DRIVES w ↦ absurd (omega (arith, few, w.if-n-le-MAX_DRIVES.false))
]
