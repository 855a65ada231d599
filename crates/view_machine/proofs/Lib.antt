mod Mapped
mod Propers
mod RunLaws
mod Ends
mod Reached
mod Opened
mod Merging
mod Versions
mod NoFences
mod OneViewRuns
mod Counting
mod Asking
pub mod Callers
