-- Normal tables with their cores.
pub mod Complete
