pub mod Chain
pub mod Stages
pub mod Counts
pub mod Laws
