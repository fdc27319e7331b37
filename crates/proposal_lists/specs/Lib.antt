-- The PR and PW records of a run file as document 02 has them, and what the reader's answers and steps say. The
-- contracts equate the two.
pub mod ProposalLists
pub mod Reading
