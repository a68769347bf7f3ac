pub mod Orders
pub mod Views
pub mod Written
pub mod NextLine
