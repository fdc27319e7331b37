-- The laws of the search for minimal hitting sets, of lists of them and of the way back.
pub mod Distinct
pub mod Duality
pub mod Listed
pub mod SearchLaws
