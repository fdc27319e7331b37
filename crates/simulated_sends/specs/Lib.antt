-- What the code's values say: the states of the drives, and the list of a sender.
pub mod States
