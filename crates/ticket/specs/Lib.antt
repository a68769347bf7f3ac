pub mod Calls
pub mod Truth
