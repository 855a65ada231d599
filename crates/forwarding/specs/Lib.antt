pub mod Forwarded
pub mod BestOf
pub mod Laws
