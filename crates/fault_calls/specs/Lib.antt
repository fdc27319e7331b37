-- That the calls are refused with a number from 1.
pub mod Numbered
