-- The proof of demand 3: laws of the calls; the states of a run as functions of the abstract rounds, and that every run
-- follows them; the canonical order of calls; a scenario that needs round f + 1; the theorems; the simulated
-- exchange, and that it needs no listener's proposal.
pub mod CallLaws
pub mod SendLists
pub mod Instances
pub mod Undecided
pub mod States
pub mod Refinement
pub mod Tight
pub mod Theorems
pub mod SimulatedRuns
pub mod Listeners
