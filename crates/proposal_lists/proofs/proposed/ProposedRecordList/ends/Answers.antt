-- A record is owed, drive n has had its own, or the mark that stands there tells.
use borrow.Author.Tests.{eq-eqb, ne_eqb, le-leb, lt-leb}
use Rattle.proposal_lists.specs.ProposalLists.{proposals_end}
use Rattle.proposal_lists.proofs.proposed.ProposedRecordList.ends.Goals as goal

pub returns-then-self-ne0 : goal.returns-then-self-ne0
unfolding proposals_end
returns-then-self-ne0 c = rw (ne_eqb _ 0 c.if-self-ne0.true)

pub returns-then-self : goal.returns-then-self
unfolding proposals_end
returns-then-self c = rw (eq-eqb _ 0 c.if-self-ne0.false, le-leb _ _ c.if-self.true)

pub returns-else-self : goal.returns-else-self
unfolding proposals_end
returns-else-self c = rw (eq-eqb _ 0 c.if-self-ne0.false, lt-leb _ _ c.if-self.false, c.starts.ensures)
