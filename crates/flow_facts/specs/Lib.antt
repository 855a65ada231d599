pub mod Levels
pub mod Transfers
pub mod Rows
pub mod Laws
pub mod Rounds
pub mod Columns
