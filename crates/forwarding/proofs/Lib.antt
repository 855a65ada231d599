mod BestLaws
mod ForwardLaws
mod ForwardFits
pub mod Callers
