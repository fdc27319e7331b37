-- The entries one after the other: what is left, compared and stored over what is held, says and gives what the whole
-- does.
use Rattle.std.proofs.Common.{refl, sym, ap, ◌∙◌, drop, ℕ, Bool, List}
use Rattle.drive_sets.specs.Bools.Laws.{clash}
use Rattle.drive_sets.specs.declared.Pattern.{Pattern}
use Rattle.drive_sets.specs.Loops.Drives.{taken}
use Rattle.records.specs.Marks.{number_width}
use Rattle.drive_states.specs.State.{number_in, number_of}
use Rattle.agreement.specs.Calls.{any_differs, stored}
use Rattle.accepted_messages.proofs.EntryWalks.{entries_next, entries_turn, entries_end}
use Rattle.accepted_messages.proofs.entries.read_all.Invariants.{both}
use Rattle.accepted_messages.proofs.entries.read_all.Goals as goal

pub returns-then-conflicts-clause-differs : goal.returns-then-conflicts-clause-differs
unfolding any_differs stored number_of number_in
returns-then-conflicts-clause-differs c =
    let l = c.loop-m in
    let a = c.args in
    let t = taken l.invariant.word c.loop-m-test.true c.lowest-d.ensures refl in
    let e = entries_next (number_width a.kind) (both a.x.now l.numbers) l.values.now l.invariant t _ c.pattern_at-v.ensures in
    (λ h. sym (rw (← c.conflicts.ensures, c.if-conflicts.true) at (ap (λ (p : Bool × List Pattern). p.0) e)), λ h. refl)

pub loop-m-preserved : goal.loop-m-preserved
unfolding any_differs stored number_of number_in
loop-m-preserved c =
    let l = c.loop-m in
    let a = c.args in
    entries_turn (number_width a.kind) (both a.x.now l.numbers) l.values.now l.invariant
    (taken l.invariant.word c.loop-m-test.true c.lowest-d.ensures c.without_lowest-m.ensures) _ c.pattern_at-v.ensures (both a.x.now _)
    (λ rest. rw (← c.conflicts.ensures, c.if-conflicts.false))
    (c.rest-values-in-loop-m.ensures ∙ ap (λ (k : ℕ). drop k l.values.now) c.number_width-width.ensures)

pub returns-clause-differs : goal.returns-clause-differs
unfolding any_differs stored number_of number_in
returns-clause-differs c =
    let l = c.loop-m in
    let a = c.args in
    let e = entries_end (number_width a.kind) (both a.x.now l.numbers) l.values.now l.invariant c.loop-m-test.false in
    (λ h. absurd (clash refl h), λ h. sym h ∙ sym (ap (λ (p : Bool × List Pattern). p.0) e))

pub returns-clause-kept : goal.returns-clause-kept
unfolding any_differs stored number_of number_in
returns-clause-kept c =
    let l = c.loop-m in
    let a = c.args in
    ap (λ (p : Bool × List Pattern). p.1) (entries_end (number_width a.kind) (both a.x.now l.numbers) l.values.now l.invariant c.loop-m-test.false)
