pub mod Holding
pub mod Recorded
pub mod Sound
