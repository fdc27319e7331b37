-- Protocols, worlds, runs of a scenario, CR records, and the statements of demand 3.
pub mod Scenario
pub mod CrashRecords
pub mod Protocol
pub mod World
pub mod Runs
pub mod Statement
