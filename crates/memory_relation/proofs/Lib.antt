mod Images
mod Owners
mod Histories
mod Plain
mod Atomic
mod NonAtomic
mod Stores
mod Openings
mod States
pub mod Callers
