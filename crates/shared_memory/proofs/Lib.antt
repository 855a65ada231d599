mod Lists
mod Calls
mod Counts
mod Histories
mod Slots
mod Keeping
mod Accesses
mod Handing
mod Rows
pub mod Callers
