mod Settling
mod Entries
mod Appending
mod Following
mod Opening
mod Missing
mod MovedRuns
mod Rooms
mod Reaching
mod Ending
mod Values
mod Shown
mod Telling
mod Trying
pub mod Callers
