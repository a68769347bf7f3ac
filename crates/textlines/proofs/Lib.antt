pub mod FirstLine
pub mod NextLine
mod Stopped
