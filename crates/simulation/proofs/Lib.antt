-- Laws of the code: the checks of the crashes, the bound on pattern numbers, and the result.
pub mod CrashChecks
pub mod Patterns
pub mod Results
