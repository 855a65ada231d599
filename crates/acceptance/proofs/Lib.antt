mod Heads
mod Roles
mod Pending
mod Changed
mod Forwarding
mod Removal
mod Growth
mod Introduction
pub mod Callers
