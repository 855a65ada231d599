pub mod Complete
pub mod Candidates
pub mod Drawn
pub mod Laws
