pub mod Entry
pub mod Board
pub mod Holders
