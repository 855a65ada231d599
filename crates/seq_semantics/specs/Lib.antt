pub mod Seq
pub mod Held
