pub mod Labels
pub mod Pair
pub mod Answers
pub mod Laws
pub mod Related
pub mod Pairing
