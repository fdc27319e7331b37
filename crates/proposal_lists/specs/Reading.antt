-- What the result of the reader of PR and PW records says. With it a contract is one equation with the list that is read.
use Rattle.std.specs.Prelude.{List, ℕ, take, drop, Result}
use Rattle.drive_sets.specs.declared.Refusal.{Refusal}
use Rattle.drive_sets.specs.Refusals.{Outcome, outcome_by}
use Rattle.records.specs.RecordLists.{ReadList}
use Rattle.drive_states.specs.State.{values}
use Rattle.proposal_lists.specs.declared.ProposalsRead.{ProposalsRead}

-- of the reader of the bytes s, for n drives
unfoldable pub proposals_outcome : ℕ → Result ProposalsRead Refusal → List ℕ → Outcome (ReadList (List ℕ))
proposals_outcome n r s = outcome_by (λ (p : ProposalsRead). record { list = take n (values p.numbers); rest = drop p.used s }) r
