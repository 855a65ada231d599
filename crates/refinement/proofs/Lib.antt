mod Traces
mod Refining
mod Printing
mod Keeping
mod Ahead
mod Counting
mod Playings
mod Ends
mod Examples
mod EventsPlayed
mod RunsPlayed
pub mod Callers
