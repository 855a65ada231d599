mod Playing
mod There
mod Making
mod Closing
mod Behind
mod Ends
mod Growing
mod Small
mod Using
pub mod Callers
