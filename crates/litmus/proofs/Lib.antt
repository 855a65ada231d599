mod Outcomes
mod Orders
mod Outputs
mod Tables
mod Counts
mod DrawnRuns
mod Rows
mod OneTable
mod Results
pub mod Callers
