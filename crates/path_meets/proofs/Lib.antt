mod Forward
mod Tabled
mod Backward
mod AfterTable
mod TreeWalks
mod YesNo
mod MeetLaws
mod TreeSteps
mod SitedSteps
mod ExitLaws
pub mod Callers
