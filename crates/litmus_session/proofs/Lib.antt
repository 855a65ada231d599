mod Fixed
mod Judged
mod RowTexts
pub mod Callers
