mod Pairing
mod Times
mod Steps
mod Messages
mod Moving
mod Room
mod Answers
mod Opening
mod MovedTimes
mod MovedMessages
mod MovedSteps
pub mod Callers
