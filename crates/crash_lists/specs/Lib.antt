-- The CR records of a run file as document 01 has them, and what the reader's answers and steps say. The contracts
-- equate the two.
pub mod CrashLists
pub mod Reading
pub mod Held
