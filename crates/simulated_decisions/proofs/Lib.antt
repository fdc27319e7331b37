-- Laws of the code: the openings, the first decisions, all rounds, and the bounds of a scenario's frame and core.
pub mod Openings
pub mod FirstDecisions
pub mod AllRounds
pub mod Bounds
