-- What the code promises of lists of sets: sorted in place.
pub mod Sorting
