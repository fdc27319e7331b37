-- The lines of the verdicts.
pub mod VerdictLines
