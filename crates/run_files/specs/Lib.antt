-- Run files, and what the reader's answers say.
pub mod RunFiles
pub mod Reading
