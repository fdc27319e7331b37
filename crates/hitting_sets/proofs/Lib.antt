-- What the functions' proofs share.
pub mod OneMore
pub mod Backwards
pub mod Shares
pub mod Forbids
pub mod Covers
pub mod Places
pub mod Branches
pub mod Trials
pub mod ColumnLaws
pub mod InMarked
pub mod Tracking
pub mod FirstMarks
pub mod Allowing
pub mod FarMarks
