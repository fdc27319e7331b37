-- Wrong drives, and scenarios in which they go wrong.
pub mod Scenarios
pub mod Wrong
