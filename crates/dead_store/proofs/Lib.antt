mod OverwrittenLaws
mod UndeadLaws
pub mod Callers
