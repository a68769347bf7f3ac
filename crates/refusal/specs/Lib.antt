pub mod Refusals
pub mod Rules
pub mod Sentences
pub mod Text
pub mod Trace
