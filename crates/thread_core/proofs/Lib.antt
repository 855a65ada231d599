mod Placing
mod Keeping
mod WellFormedProper
mod EachHead
mod Paths
mod Depths
mod Asking
mod Silent
mod Opened
mod Budgets
mod Calling
pub mod Callers
