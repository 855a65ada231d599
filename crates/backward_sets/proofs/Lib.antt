mod SetLaws
mod TurnLaws
pub mod Callers
