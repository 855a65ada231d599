pub mod Sampled
pub mod Outcome
pub mod Table
pub mod Laws
