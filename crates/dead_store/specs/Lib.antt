pub mod Overwritten
pub mod Backward
pub mod Undead
pub mod Laws
