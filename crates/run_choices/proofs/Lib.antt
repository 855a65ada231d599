mod Appending
mod Ends
pub mod Callers
