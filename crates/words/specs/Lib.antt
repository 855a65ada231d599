pub mod Spelling
pub mod Options
pub mod Commands
pub mod Numbers
pub mod Meaning
pub mod Reading
pub mod Program
