mod Printing
mod Verdicts
mod Budgets
mod Lines
mod Answered
pub mod Callers
