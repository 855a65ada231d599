pub mod Order
pub mod List
pub mod Values
pub mod Laws
