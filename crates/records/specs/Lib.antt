-- Byte fields, marks and records, lists of records.
pub mod Fields
pub mod Marks
pub mod RecordLists
