-- The rounds of SyncCrash, and the laws that end in agreement by round f + 1 and in the lower bound.
pub mod Rounds
