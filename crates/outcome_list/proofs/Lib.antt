pub mod Callers
mod Orders
mod Comparing
mod LastValues
mod Placing
mod Covers
mod Listing
