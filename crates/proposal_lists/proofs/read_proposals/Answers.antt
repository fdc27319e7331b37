-- The records from none read on.
use borrow.Author.Tests.{lt-ltb, le-ltb}
use Rattle.std.proofs.lemmas.Result.{err_from_is_err_and}
use Rattle.proposal_lists.specs.ProposalLists.{read_proposals}
use Rattle.proposal_lists.specs.Reading.{proposals_outcome}
use Rattle.proposal_lists.proofs.ProposalSteps.{none_given}
use Rattle.proposal_lists.proofs.read_proposals.Goals as goal

pub returns-then-n-gt-MAX_DRIVES-clause-value : goal.returns-then-n-gt-MAX_DRIVES-clause-value
unfolding proposals_outcome
returns-then-n-gt-MAX_DRIVES-clause-value c = rw (lt-ltb _ _ c.if-n-gt-MAX_DRIVES.true)

pub returns-in_err-used-clause-value : goal.returns-in_err-used-clause-value
unfolding proposals_outcome read_proposals
returns-in_err-used-clause-value c =
    let e = err_from_is_err_and c.from_residual.result c.from_residual.ensures.1 in
    rw (e.1, e.2, le-ltb _ _ c.if-n-gt-MAX_DRIVES.false, ← none_given c.args.n 64 c.if-n-gt-MAX_DRIVES.false, ← c.in_err-used.ensures.value)

pub returns-clause-value : goal.returns-clause-value
unfolding proposals_outcome read_proposals
returns-clause-value c =
    rw (le-ltb _ _ c.if-n-gt-MAX_DRIVES.false, ← none_given c.args.n 64 c.if-n-gt-MAX_DRIVES.false, ← c.in_ok-used.ensures.value, c.in_ok-used.ensures.kept)
