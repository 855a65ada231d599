pub mod Expectation
pub mod Expectations
pub mod Refusals
pub mod Reading
pub mod Laws
pub mod Output
