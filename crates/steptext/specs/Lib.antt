pub mod Texts
pub mod Words
pub mod Lines
pub mod Fits
pub mod Printed
pub mod Steps
pub mod FromReader
pub mod Said
