mod EventWords
mod EventLines
mod EventSteps
mod Lines
mod EachEvent
mod Parts
mod OneSession
mod EachSession
mod Answered
pub mod Callers
