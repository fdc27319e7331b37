-- The proofs of the promises, a file for each file of specs/ (two for Listeners), and before them what tables the calls
-- and the readers give (Tables), and the PR and PW records as they are written, with their numbers, in their places,
-- and as they were read before (ProposalsWritten, ProposalsKept, ProposalsInPlace, ProposalsBefore). First stands what the
-- results of calls say (Results).
pub mod Results
pub mod Tables
pub mod ProposalsWritten
pub mod ProposalsKept
pub mod ProposalsInPlace
pub mod ProposalsBefore
pub mod Cores
pub mod Back
pub mod Missed
pub mod RoundTrip
pub mod Verdict
pub mod TableText
pub mod Exchange
pub mod RunText
pub mod OldRecords
pub mod Listeners
pub mod NewRunFiles
pub mod FaultLists
