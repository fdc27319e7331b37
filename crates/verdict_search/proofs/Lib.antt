-- The loops of the search, of the blocks and of the drives in every set, lists in arrays of four, the columns, when any
-- k sets share a drive, and the answers.
pub mod Fours
pub mod Loops
pub mod Splitting
pub mod Building
pub mod Asking
pub mod Branches
pub mod Answers
pub mod Verdicts
