pub mod Lines
pub mod Division
pub mod Laws
