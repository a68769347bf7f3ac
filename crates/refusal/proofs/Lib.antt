pub mod Verdicts
pub mod Traces
