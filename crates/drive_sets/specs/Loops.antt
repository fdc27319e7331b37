-- The laws of loops, one for each shape of loop: a record that is the loop's invariant, with how it starts, what a turn
-- keeps and what holds at the end. They speak of plain lists, so that the proof of a function only names the law.
pub mod Scan
pub mod Back
pub mod Filling
pub mod Drives
