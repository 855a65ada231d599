mod ChainLaws
mod WellFormedChains
mod HoistedLoads
mod Gathered
mod CountLaws
mod SiteCounts
pub mod Callers
