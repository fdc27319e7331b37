-- The scenario that crosses from C, and that no reply is refused with the number 0.
pub mod Simulations
