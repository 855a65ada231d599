pub mod Heads
pub mod Kinds
pub mod Changed
pub mod Laws
pub mod Puts
