-- What the functions' proofs share: the CR records and the loop over them. They are laws of plain lists, so that a
-- function's proof only answers its needs.
pub mod CrashList
