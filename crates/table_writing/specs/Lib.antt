-- What the writer writes.
pub mod Writing
