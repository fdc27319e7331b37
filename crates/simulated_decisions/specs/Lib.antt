-- What the code's values say: the scenario of its arguments, and how a drive ends.
pub mod Arguments
pub mod Endings
