-- The promises of demands 2 and 3, and of document 02's requests, as types: of cores and the way back from them, of the
-- first set that a group misses, of tables written and read, of verdicts and their lines, of the simulated exchange, of
-- the text of the run program, of old records, of listeners' records, and of fault lists.
pub mod Cores
pub mod Back
pub mod Missed
pub mod RoundTrip
pub mod Verdict
pub mod TableText
pub mod Exchange
pub mod RunText
pub mod OldRecords
pub mod Listeners
pub mod FaultLists
