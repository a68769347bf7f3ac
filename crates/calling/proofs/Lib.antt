pub mod OneTotal
pub mod Stepped
