pub mod Hottest
pub mod Totals
