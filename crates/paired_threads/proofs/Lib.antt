mod Beside
mod Below
mod Pending
mod Wants
mod GoOn
mod FactLaws
mod Calls
mod Working
mod Stacks
mod Stepping
pub mod Callers
