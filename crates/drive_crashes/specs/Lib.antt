-- Crashes by drive.
pub mod Crashes
