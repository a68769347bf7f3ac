pub mod InTurn
pub mod Keeping
pub mod Histories
