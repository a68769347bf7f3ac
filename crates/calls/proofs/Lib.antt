pub mod Undone
