mod HoistLaws
mod IntroducedLaws
mod FreeNames
mod IntroducedFits
mod PutLoads
pub mod Callers
