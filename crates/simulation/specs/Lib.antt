-- The simulated exchange, that it reaches agreement, and what the code's answer says.
pub mod Simulation
pub mod Endings
