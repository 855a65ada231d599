pub mod Room
pub mod Behind
pub mod Ends
pub mod Moves
