-- Fault lists as bytes.
pub mod FaultFiles
