-- What the threshold program writes.
pub mod ThresholdFiles
