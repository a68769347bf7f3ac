pub mod Joinings
pub mod Steps
