mod Places
mod Steps
mod Values
mod Fences
mod Events
mod Told
mod Examples
mod Along
mod Pairs
mod Lists
mod Heard
mod Entry
pub mod Callers
