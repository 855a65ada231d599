mod OneAnswer
mod Answered
mod EachAnswer
pub mod Callers
