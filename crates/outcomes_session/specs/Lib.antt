pub mod Output
pub mod Judging
pub mod Session
pub mod Telling
pub mod Laws
