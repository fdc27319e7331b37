-- Laws of the code: the world of the array of states, what is left of a list, and what a send writes.
pub mod Worlds
pub mod DueLists
pub mod SentBytes
