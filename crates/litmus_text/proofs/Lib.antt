mod Names
mod ExpectationWords
mod ExpectationSteps
mod ExpectationLines
mod EachExpectation
mod Verdicts
mod Parts
mod OneInput
mod EachInput
mod WordLists
mod Answered
mod OutputsAlone
pub mod Callers
