pub mod Played
pub mod Numbered
pub mod Compared
pub mod Lawful
