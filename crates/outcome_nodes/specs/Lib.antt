pub mod Nodes
pub mod Moved
pub mod Reached
pub mod Laws
pub mod Outcome
pub mod Standing
