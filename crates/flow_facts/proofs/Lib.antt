mod LevelLaws
mod RowLaws
mod KeptLaws
mod TableLaws
mod Round
mod RoundSteps
mod Settled
mod GivenLaws
mod ColumnLaws
pub mod Callers
