pub mod Event
pub mod Events
pub mod Refusals
pub mod Reading
pub mod Laws
pub mod Output
