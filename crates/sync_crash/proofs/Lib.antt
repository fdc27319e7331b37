-- The laws of the rounds.
pub mod Rounds
