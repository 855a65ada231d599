pub mod Slot
pub mod Answers
pub mod Turns
pub mod Passes
pub mod Lending
pub mod Laws
