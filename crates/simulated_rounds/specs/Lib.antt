-- What the code's values say: the crashes by drive, and the calls of a round.
pub mod Rounds
