-- The four calls of document 01 and to whom a message goes, as a protocol; a scenario as an instance of the abstract
-- rounds; the simulated exchange, and the canonical order of calls.
pub mod Calls
pub mod Sends
pub mod Instance
pub mod Document01
pub mod RoundEndings
pub mod Canonical
