-- One record: refused, out of its place, or a drive with its number.
use mathlib.Core.Path.{sym, ap, ◌∙◌}
use Prim.Native.Nat.{ℕ, ◌+◌}
use native.Mathlib.Omega.{arith}
use Rattle.std.proofs.slice.Orders.{nat_cmp-ltb}
use Rattle.std.proofs.lemmas.Result.{err_from_is_err_and}
use Rattle.runs.specs.CrashRecords.Laws.{next_bounds}
use Rattle.records.specs.Marks.{body_width}
use Rattle.records.specs.Marks.Laws.{body_most}
use Rattle.records.specs.RecordLists.{next_of, step_of}
use Rattle.proposal_lists.specs.ProposalLists.{taken_proposal, with_proposal}
use Rattle.proposal_lists.proofs.ProposalSteps.{one, there, proposal_long, drive_byte, noted}
use Rattle.proposal_lists.proofs.proposed.ProposedRecordList.take.Goals as goal

pub returns-in_err-kind-clause-taken : goal.returns-in_err-kind-clause-taken
unfolding step_of next_of taken_proposal
returns-in_err-kind-clause-taken c =
    let e = err_from_is_err_and c.from_residual.result c.from_residual.ensures.1 in
    rw (e.1, e.2, ← c.read_head.ensures, c.in_err-kind.was)

pub bounds-s-2 : goal.bounds-s-2
bounds-s-2 c = omega (arith, proposal_long c.args.s.now c.read_head.ensures c.in_ok-kind.was)

pub returns-then-not-is_next-clause-taken : goal.returns-then-not-is_next-clause-taken
unfolding step_of next_of taken_proposal
returns-then-not-is_next-clause-taken c =
    let h = c.read_head.ensures in
    let k = c.in_ok-kind.was in
    rw (one _ h k _, drive_byte _ h k, ← c.is_next.ensures, c.if-not-is_next.true)

pub returns-then-lt-clause-taken : goal.returns-then-lt-clause-taken
unfolding step_of next_of taken_proposal
returns-then-lt-clause-taken c =
    let h = c.read_head.ensures in
    let k = c.in_ok-kind.was in
    rw (one _ h k _, drive_byte _ h k, ← c.is_next.ensures, c.if-not-is_next.false, ← c.lowest.ensures, ← nat_cmp-ltb c.lowest.result.0 _, ← c.lt.ensures, c.if-lt.true)

pub note-requires : goal.note-requires
note-requires c = omega (arith, next_bounds _ _ _ (sym c.is_next.ensures ∙ c.if-not-is_next.false), c.args.self.now.frame)

pub overflow_add-result : goal.overflow_add-result
overflow_add-result c = omega (arith, c.body_width.ensures, body_most c.in_ok-kind.kind)

pub returns-clause-taken : goal.returns-clause-taken
unfolding step_of next_of taken_proposal with_proposal
returns-clause-taken c =
    let h = c.read_head.ensures in
    let k = c.in_ok-kind.was in
    let b = next_bounds _ _ _ (sym c.is_next.ensures ∙ c.if-not-is_next.false) in
    let is = (there _ h k).is in (
      rw (c.note.ensures, noted _ c.args.self.now.numbers c.args.self.now.n _ _ b.0 b.1, c.remove-self.ensures, one _ h k _, drive_byte _ h k, ← c.is_next.ensures, c.if-not-is_next.false, ← c.lowest.ensures, ← nat_cmp-ltb c.lowest.result.0 _, ← c.lt.ensures, c.if-lt.false, is, c.pattern_at-number.ensures),
      ap (λ (w : ℕ). 2 + w) (c.body_width.ensures ∙ ap body_width (sym is)),
    )
