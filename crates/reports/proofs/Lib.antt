mod Chains
mod Lifts
mod Tidying
mod OneTarget
mod SourceFits
mod ReadBack
mod Endings
pub mod Callers
