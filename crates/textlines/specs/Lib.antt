pub mod Lines
pub mod Silence
pub mod Stops
