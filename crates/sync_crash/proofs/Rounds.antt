-- The laws of the rounds, which end in agreement by round f + 1 and in the lower bound.
pub mod Steps
pub mod Decisions
pub mod Validity
pub mod HeardSets
pub mod StableRounds
pub mod Invariant
pub mod InvariantSteps
pub mod Bound
pub mod Agreement
pub mod Proposals
