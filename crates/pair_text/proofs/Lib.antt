mod OneAnswer
mod EachInput
mod Answered
pub mod Callers
