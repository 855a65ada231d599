pub mod Lexeme
pub mod Text
pub mod Place
pub mod Slices
pub mod Layout
