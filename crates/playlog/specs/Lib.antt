pub mod Calls
pub mod Plays
pub mod Outcomes
pub mod Text
pub mod Report
