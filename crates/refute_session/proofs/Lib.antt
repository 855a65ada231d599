mod Listed
mod Runs
mod Answered
pub mod Callers
