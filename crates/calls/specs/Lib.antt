pub mod Calls
pub mod Codes
pub mod Views
pub mod Words
pub mod Tables
