mod NeighbourLaws
mod OkLaws
pub mod Callers
